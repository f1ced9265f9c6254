use Rattle.std.proofs.Common.{◌≤◌, length, subst}
use Rattle.dist_base.specs.declared.TheConstants.{DEFAULT_LIMIT}
use Rattle.dist_derive.specs.ClauseLog.{ClauseLog}
use Rattle.dist_bench.proofs.QuestionLemmas.{inputs-stay, right-of}
use Rattle.dist_bench.proofs.questions.ask.Goals as goal

pub returns-in-Ok-clause-right : goal.returns-in-Ok-clause-right
returns-in-Ok-clause-right c =
    right-of c.args.solver.now.log c.ask.new.self.log c.args.assumptions.now DEFAULT_LIMIT c.in-Ok.answer
    (inputs-stay c.args.solver.now.log c.ask.new.self.log c.ask.new.self.derived c.args.assumptions.now DEFAULT_LIMIT
    (subst (λ (l : ClauseLog). l.inputs ≤ length l.clauses) c.log.ensures.value c.keeps_invariant.ensures.inputs) c.in-Ok.ensures.adds)
    c.in-Ok.ensures.answer
