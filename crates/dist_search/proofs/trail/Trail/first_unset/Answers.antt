use Rattle.std.proofs.Common.{◌≤◌, false, length, get_or, subst, ap, sym, arith, take, ◌+◌}
use Rattle.std.specs.List.{All}
use Rattle.std.proofs.lemmas.List.{take_all}
use Rattle.std.proofs.lemmas.List.Elements.{All-more}
use Rattle.dist_clause.specs.Formula.{literal}
use Rattle.dist_derive.specs.TrueLiterals.{LiteralList, HasTruth}
use Rattle.dist_search.specs.StepsPrivate.{IsSet}
use Rattle.dist_search.proofs.ValueLemmas.{set_of}
use Rattle.dist_search.proofs.trail.Trail.first_unset.Goals as goal

pub loop-variable-preserved : goal.loop-variable-preserved
loop-variable-preserved c =
    let trues = c.args.self.now.literals in
    let i = c.loop-variable.variable-index in
    let items = c.members-variable-items.result.now in
    let value = c.members-variable-items.ensures.value in
    let truth : HasTruth trues (literal (get_or items i 0) false) c.status.result =
    subst (λ (ts : LiteralList). HasTruth ts.literals (literal (get_or items i 0) false) c.status.result) c.trues.ensures
    (subst (λ l. HasTruth c.trues.result.now.literals l c.status.result) c.new-literal.ensures c.status.ensures) in
    subst (λ ms. All (IsSet trues) (take (i + 1) ms)) value
    (All-more (IsSet trues) items i 0 c.loop-variable-test.true (subst (λ ms. All (IsSet trues) (take i ms)) (sym value) c.loop-variable.invariant)
    (set_of trues (get_or items i 0) c.status.result truth c.in_default.not-Unset))

pub returns-clause-none : goal.returns-clause-none
returns-clause-none c =
    let members = c.args.cone.now.members in
    let past : length members ≤ c.loop-variable.variable-index = omega (arith, c.loop-variable-test.false, ap length c.members-variable-items.ensures.value) in
    subst (λ vs. All (IsSet c.args.self.now.literals) vs) (take_all c.loop-variable.variable-index members past) c.loop-variable.invariant
