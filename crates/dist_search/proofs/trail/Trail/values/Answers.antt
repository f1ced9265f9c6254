use Rattle.std.proofs.Common.{◌≡◌, ◌≢◌, ◌-◌, ◌<◌, ◌≤◌, false, ◌∷◌, [], ◌++◌, length, take, set, sym, subst, ap, ◌∙◌, arith, length-set, length-take}
use Rattle.std.specs.List.{All}
use Rattle.std.proofs.lemmas.List.{take_more, get_or-take, get_or_default}
use Rattle.dist_clause.specs.Formula.{Literal, literal}
use Rattle.dist_search.specs.Trail.{literal_at}
use Rattle.dist_search.specs.StepsPrivate.{AreValuesOf}
use Rattle.dist_search.proofs.ValueLemmas.{values_more}
use Rattle.dist_search.proofs.trail.Trail.values.Goals as goal

pub loop-place-preserved : goal.loop-place-preserved
loop-place-preserved c =
    let literals = c.args.self.now.literals in
    let i = c.loop-place.place in
    let l = literal_at literals i in
    let values = c.loop-place.values in
    let over = c.keeps_invariant.ensures.ordered.over in
    let within : i < length literals = omega (arith, c.loop-place-test.true, c.len-place-end.ensures.value) in
    let one : 1 ≤ l.variable = (over.in_range i (literal 0 false) within).0 in
    let in_range : l.variable ≤ length values = omega (arith, (over.in_range i (literal 0 false) within).1, c.loop-place.invariant.variables) in
    let ones : All (λ m. 1 ≤ m.variable) (take i literals) = λ k d inside.
    subst (λ (m : Literal). 1 ≤ m.variable) (sym (get_or-take i literals k d (omega (arith, inside, length-take i literals))))
    (over.in_range k d (omega (arith, inside, length-take i literals))).0 in
    let apart : All (λ m. m.variable ≢ l.variable) (take i literals) = λ k d inside e.
    let before : k < i = omega (arith, inside, length-take i literals) in
    over.distinct k i (literal 0 false) before within
    (ap (λ (m : Literal). m.variable) (get_or_default literals k (literal 0 false) d (omega (arith, before, within))
    ∙ sym (get_or-take i literals k d before)) ∙ e) in
    let so_far = values_more (take i literals) values l one in_range ones apart c.loop-place.invariant.values in
    let written : c.set.new.self ≡ set values (l.variable - 1) l.positive = c.set.ensures ∙ cc in
    record {
      values = subst (λ ms. AreValuesOf ms c.set.new.self) (sym (take_more literals i (literal 0 false) within))
          (subst (λ vs. AreValuesOf (take i literals ++ l ∷ []) vs) (sym written) so_far);
      variables = omega (arith, ap length written, length-set values (l.variable - 1) l.positive, c.loop-place.invariant.variables);
    }
