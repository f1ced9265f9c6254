use Rattle.std.proofs.Common.{◌≡◌, ◌∙◌, ◌≤◌, true, refl, subst, sym, arith, [], ◌∷◌, get_or, take}
use Rattle.std.proofs.lemmas.List.{take_all, take_more}
use Rattle.std.proofs.lemmas.List.Elements.{All-get_or}
use Rattle.dist_derive.specs.Marking.{HasAll}
use Rattle.dist_derive.proofs.ValuedLemmas.{All-front, All-last}
use Rattle.dist_derive.proofs.GrowingLemmas.{Grows-included, HasAll-included}
use Rattle.dist_derive.proofs.variable_set.VariableSet.include_each.Goals as goal

pub loop-variable-init : goal.loop-variable-init
loop-variable-init c = (refl, λ has all _. all)

pub include-requires-clause-from_one : goal.include-requires-clause-from_one
include-requires-clause-from_one c =
    (All-get_or (λ v. (1 ≤ v) × (v ≤ c.args.self.now.variables)) c.args.variables.now c.loop-variable.variable-index 0 c.loop-variable-test.true c.requires).0

pub include-requires-clause-in_range : goal.include-requires-clause-in_range
include-requires-clause-in_range c =
    let here = All-get_or (λ v. (1 ≤ v) × (v ≤ c.args.self.now.variables)) c.args.variables.now c.loop-variable.variable-index 0 c.loop-variable-test.true
    c.requires in
    omega (arith, here.1, c.loop-variable.invariant.0)

pub loop-variable-preserved : goal.loop-variable-preserved
loop-variable-preserved c =
    let i = c.loop-variable.variable-index in
    let all = c.args.variables.now in
    let v = get_or all i 0 in
    let growth = Grows-included c.loop-variable.self c.include.new.self v c.include.result c.include.ensures in (
      growth.same_variables ∙ c.loop-variable.invariant.0,
      λ has start in_all.
          let more = subst (HasAll has) (take_more all i 0 c.loop-variable-test.true) in_all in
          HasAll-included has c.loop-variable.self c.include.new.self v c.include.result c.include.ensures
          (c.loop-variable.invariant.1 has start (All-front (λ m. has m ≡ true) (take i all) (v ∷ []) more))
          (All-last (λ m. has m ≡ true) (take i all) v more),
    )

pub returns-clause-least : goal.returns-clause-least
returns-clause-least c = λ has start in_all. c.loop-variable.invariant.1 has start
    (subst (HasAll has) (sym (take_all c.loop-variable.variable-index c.args.variables.now c.loop-variable-test.false)) in_all)
