use Rattle.std.proofs.Common.{◌≡◌, ◌≤◌, ◌∷◌, [], ◌++◌, length, set, ap, sym, subst, arith, ◌∙◌}
use Rattle.std.specs.Vec.{vec_capacity}
use Rattle.dist_derive.specs.Propagation.{IsUnset}
use Rattle.dist_derive.specs.TrueLiterals.{LiteralList}
use Rattle.dist_search.specs.Trail.{TrailState}
use Rattle.dist_search.specs.TrailPrivate.{IsTrailKept}
use Rattle.dist_search.proofs.TrailLemmas.{IsTrailKept-push}
use Rattle.dist_search.proofs.trail.Trail.push.Goals as goal

pub invariant_of-self : goal.invariant_of-self
invariant_of-self c =
    let l = c.args.literal in
    let trues = c.self.inside.trues in
    let literals = ap (λ (t : TrailState). t.literals) c.self.view_is in
    let unset = subst (λ ls. IsUnset ls l) (sym literals) c.requires.unset in
    let place : c.len-place.result ≡ length trues.literals = c.len-place.ensures.value ∙ sym (ap length literals) in
    let added = c.make_true.ensures.added in
    let few = subst (λ (t : LiteralList). length t.literals ≤ t.variables) added c.make_true.ensures.few in
    let kept = IsTrailKept-push trues c.self.inside.reasons.items c.self.inside.places.items c.self.inside.starts.items c.self.inside.head
    (vec_capacity c.self.inside.reasons) (vec_capacity c.self.inside.starts) l c.args.reason c.self.invariant unset
    (omega (arith, c.requires.in_range, ap (λ (t : TrailState). t.variables) c.self.view_is)) few in
    let variable = c.variable.ensures.value in
    let numbers = c.push_reserved.ensures.items in
    let capacity = c.push_reserved.ensures.capacity in
    let seats : set c.self.inside.places.items c.variable.result c.len-place.result ≡ set c.self.inside.places.items l.variable (length trues.literals) =
    ap (λ v. set c.self.inside.places.items v c.len-place.result) variable ∙ ap (set c.self.inside.places.items l.variable) place in
    subst (λ (t : LiteralList). IsTrailKept t c.push_reserved.new.self.items (set c.self.inside.places.items c.variable.result c.len-place.result)
    c.self.inside.starts.items c.self.inside.head (vec_capacity c.push_reserved.new.self) (vec_capacity c.self.inside.starts)) (sym added)
    (subst (λ ns. IsTrailKept (record trues { literals = trues.literals ++ l ∷ [] }) ns (set c.self.inside.places.items c.variable.result c.len-place.result)
    c.self.inside.starts.items c.self.inside.head (vec_capacity c.push_reserved.new.self) (vec_capacity c.self.inside.starts)) (sym numbers)
    (subst (λ ps. IsTrailKept (record trues { literals = trues.literals ++ l ∷ [] }) (c.self.inside.reasons.items ++ c.args.reason ∷ []) ps
    c.self.inside.starts.items c.self.inside.head (vec_capacity c.push_reserved.new.self) (vec_capacity c.self.inside.starts)) (sym seats)
    (subst (λ n. IsTrailKept (record trues { literals = trues.literals ++ l ∷ [] }) (c.self.inside.reasons.items ++ c.args.reason ∷ [])
    (set c.self.inside.places.items l.variable (length trues.literals)) c.self.inside.starts.items c.self.inside.head n
    (vec_capacity c.self.inside.starts)) (sym capacity) kept)))
