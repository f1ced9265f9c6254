use Rattle.std.proofs.Common.{◌∙◌, ap, sym, subst, arith}
use Rattle.dist_clause.specs.Formula.{Literal}
use Rattle.dist_derive.specs.ClauseLog.{ClauseLog}
use Rattle.dist_bench.proofs.QuestionLemmas.{verdict}
use Rattle.dist_bench.specs.Questions.{IsVerdict}
use Rattle.dist_bench.proofs.questions.verdict_of.Goals as goal

pub returns : goal.returns
returns c =
    let last = c.variables-last.ensures.value ∙ ap (λ (l : ClauseLog). l.variables) c.log.ensures.value ∙ c.requires.variables in
    subst (λ t. IsVerdict c.args.repository.now t) (sym c.said.ensures)
    (verdict c.args.repository.now c.args.solver.now.log c.new.result c.in_ok-answer.answer c.requires
    (ap (λ (l : Literal). l.variable) c.new.ensures ∙ last)
    (ap (λ (l : Literal). l.positive) c.new.ensures)
    (omega (arith, last, c.if-last-eq0.false)) c.in_ok-answer.ensures.right)
