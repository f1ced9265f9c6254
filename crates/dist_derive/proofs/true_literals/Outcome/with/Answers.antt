use Rattle.std.proofs.Common.{◌≢◌, subst, [], ◌∷◌, inl, inr}
use Rattle.std.proofs.lemmas.List.Elements.{All-contains}
use Rattle.dist_clause.specs.Formula.{Literal}
use Rattle.dist_derive.specs.TrueLiterals.{HasTruth, HasOutcome}
use Rattle.dist_derive.proofs.OutcomeLemmas.{conflict_false, conflict_unset, unit_false, true_open, two_unset_open, open-append}
use Rattle.dist_derive.proofs.true_literals.Outcome.with.Goals as goal

pub returns-in-False : goal.returns-in-False
returns-in-False c = λ trues clause apart h s.
    conflict_false trues clause c.args.literal (subst (λ o. HasOutcome trues clause o) c.in-Conflict.is h)
    ((subst (λ x. HasTruth trues c.args.literal x) c.in-False.is s)).1

pub returns-in-Unset : goal.returns-in-Unset
returns-in-Unset c = λ trues clause apart h s.
    conflict_unset trues clause c.args.literal (subst (λ o. HasOutcome trues clause o) c.in-Conflict.is h)
    (subst (λ x. HasTruth trues c.args.literal x) c.in-Unset.is s)

pub returns-in-True : goal.returns-in-True
returns-in-True c = λ trues clause apart h s.
    let t = (subst (λ x. HasTruth trues c.args.literal x) c.in-True.is s) in true_open trues clause c.args.literal t.0 t.1

pub returns-in-False-status : goal.returns-in-False-status
returns-in-False-status c = λ trues clause apart h s.
    unit_false trues clause c.args.literal c.in-Unit.only (subst (λ o. HasOutcome trues clause o) c.in-Unit.is h)
    ((subst (λ x. HasTruth trues c.args.literal x) c.in-False-status.is s)).1

pub returns-in-Unset-status : goal.returns-in-Unset-status
returns-in-Unset-status c = λ trues clause apart h s.
    elim c.in-Unset-status.is [
      | inl unset ↦ two_unset_open trues clause c.args.literal c.in-Unit.only (subst (λ o. HasOutcome trues clause o) c.in-Unit.is h)
          (subst (λ x. HasTruth trues c.args.literal x) unset s)
          (All-contains (λ (m : Literal). m.variable ≢ c.args.literal.variable) clause c.in-Unit.only apart
          (subst (λ o. HasOutcome trues clause o) c.in-Unit.is h).member)
      | inr is_true ↦ let t = subst (λ x. HasTruth trues c.args.literal x) is_true s in true_open trues clause c.args.literal t.0 t.1
    ]

pub returns-in-Open : goal.returns-in-Open
returns-in-Open c = λ trues clause apart h s.
    open-append trues clause (c.args.literal ∷ []) (subst (λ o. HasOutcome trues clause o) c.in-Open.is h)
