use Rattle.std.proofs.Common.{◌≡◌, ◌-◌, ◌≤◌, true, [], ◌∷◌, ◌++◌, length, take, get_or, set, sym, subst, ap, arith, length-set}
use Rattle.std.proofs.lemmas.List.{take_more, take_all}
use Rattle.std.proofs.lemmas.List.Elements.{All-get_or}
use Rattle.dist_clause.specs.Formula.{value_of}
use Rattle.dist_derive.specs.VariableSet.{GivesTrue}
use Rattle.dist_solver.proofs.TestedLemmas.{GivesTrue-more}
use Rattle.dist_solver.proofs.tested.values.Goals as goal

pub loop-variable-preserved : goal.loop-variable-preserved
loop-variable-preserved c =
    let i = c.loop-variable.variable-index in
    let members = c.args.set.now.members in
    let values = c.loop-variable.values in
    let v = get_or members i 0 in
    let items = c.members-variable-items.ensures in
    let in_range = subst (λ ms. (1 ≤ get_or ms i 0) × (get_or ms i 0 ≤ c.args.set.now.variables)) items.value
    (All-get_or (λ w. (1 ≤ w) × (w ≤ c.args.set.now.variables)) c.members-variable-items.result.now i 0 c.loop-variable-test.true items.in_range) in
    let written : c.set.new.self ≡ set values (v - 1) true = subst (λ ms. c.set.new.self ≡ set values (get_or ms i 0 - 1) true) items.value c.set.ensures in
    let within : v ≤ length values = omega (arith, in_range.1, c.loop-variable.invariant.variables) in
    let more = GivesTrue-more values (take i members) v in_range.0 within c.loop-variable.invariant.values in
    record {
      variables = omega (arith, ap length written, length-set values (v - 1) true, c.loop-variable.invariant.variables);
      values = subst (λ ms. GivesTrue (value_of c.set.new.self) ms)
          (sym (take_more members i 0 (omega (arith, c.loop-variable-test.true, ap length items.value))))
          (subst (λ vs. GivesTrue (value_of vs) (take i members ++ v ∷ [])) (sym written) more);
    }

pub returns-clause-values : goal.returns-clause-values
returns-clause-values c =
    subst (λ ms. GivesTrue (value_of c.loop-variable.values) ms)
    (take_all c.loop-variable.variable-index c.args.set.now.members
    (omega (arith, c.loop-variable-test.false, ap length c.members-variable-items.ensures.value)))
    c.loop-variable.invariant.values
