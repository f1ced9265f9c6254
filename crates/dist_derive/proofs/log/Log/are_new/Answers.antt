use Rattle.std.proofs.Common.{◌∙◌, ◌↔◌, IsTrue, arith, subst, sym}
use Rattle.std.proofs.lemmas.Bool.{false≢true}
use Rattle.dist_derive.specs.ClauseLog.{ClauseLog, inputs_of}
use Rattle.dist_derive.specs.ConePrivate.{AreLinesWithin}
use Rattle.dist_derive.proofs.NewLinesLemmas.{lines_within}
use Rattle.dist_derive.proofs.log.Log.are_new.Goals as goal

pub returns-then-not-reached-clause-answer : goal.returns-then-not-reached-clause-answer
returns-then-not-reached-clause-answer c =
    let answer = subst (λ (g : ClauseLog). IsTrue c.reaches_lines-reached.result ↔ AreLinesWithin (inputs_of g) g.clauses c.args.assumptions.now c.args.last)
    c.self.view_is c.reaches_lines-reached.ensures.answer in (
      λ e. absurd (false≢true e),
      λ h. absurd (false≢true (sym c.if-not-reached.true ∙ answer.1
          (lines_within c.args.self.now.clauses c.args.self.now.inputs c.args.assumptions.now c.args.last
          (omega (arith, c.if-last-inputs.false, c.inputs.ensures.value)) h))),
    )

pub lines_are_new-requires-clause-within : goal.lines_are_new-requires-clause-within
lines_are_new-requires-clause-within c = c.reaches_lines-reached.ensures.answer.0 c.if-not-reached.false
