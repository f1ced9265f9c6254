use Rattle.std.proofs.Common.{◌≡◌, ◌-◌, min, length, sym, ◌∙◌}
use Rattle.std.proofs.lemmas.Bool.{false≢true}
use Rattle.dist_derive.proofs.NewLemmas.{IsNew-computed}
use Rattle.dist_derive.proofs.log.Log.is_new.Goals as goal

pub returns-then-not-reached-clause-answer : goal.returns-then-not-reached-clause-answer
returns-then-not-reached-clause-answer c =
    let clauses = c.args.self.now.clauses in
    let last : c.min-last.result ≡ min (c.args.before - 1) (length clauses) = cc in
    let few : c.min-inputs.result ≡ min c.min-last.result c.args.self.now.inputs = cc in
    let new = IsNew-computed c.args.self.now.variables clauses c.args.self.now.inputs c.args.before c.min-last.result c.min-inputs.result c.args.assumptions.now
    c.args.clause.now c.requires.clause last few in
    (λ e. absurd (false≢true e), λ h. absurd (false≢true (sym c.if-not-reached.true ∙ c.reaches-reached.ensures.answer.1 (new.0 h).0)))

pub returns-clause-answer : goal.returns-clause-answer
returns-clause-answer c =
    let clauses = c.args.self.now.clauses in
    let last : c.min-last.result ≡ min (c.args.before - 1) (length clauses) = cc in
    let few : c.min-inputs.result ≡ min c.min-last.result c.args.self.now.inputs = cc in
    let new = IsNew-computed c.args.self.now.variables clauses c.args.self.now.inputs c.args.before c.min-last.result c.min-inputs.result c.args.assumptions.now
    c.args.clause.now c.requires.clause last few in (
      λ e. new.1 (c.reaches-reached.ensures.answer.0 c.if-not-reached.false, c.adds.ensures.answer.0 e),
      λ h. c.adds.ensures.answer.1 (new.0 h).1,
    )
