use Rattle.std.proofs.Common.{◌<◌, ◌∷◌, [], ◌++◌, length, ap, sym, subst, arith, ◌∙◌}
use Rattle.std.specs.List.{All}
use Rattle.std.specs.Vec.{vec_capacity}
use Rattle.std.proofs.lemmas.List.{length_push}
use Rattle.dist_search.specs.Trail.{TrailState}
use Rattle.dist_search.specs.TrailPrivate.{IsTrailKept}
use Rattle.dist_search.proofs.TrailLemmas.{rising_few, IsTrailKept-decide}
use Rattle.dist_search.proofs.trail.Trail.decide.Goals as goal

pub push_reserved-requires : goal.push_reserved-requires
push_reserved-requires c =
    let trail = c.args.self.now in
    let ordered = c.keeps_invariant.ensures.ordered in
    let few = rising_few trail.starts (length trail.literals) ordered.rising ordered.decided in
    let pushed = c.self.view_is ∙ c.push.ensures in
    let long = ap (λ (t : TrailState). length t.literals) pushed ∙ length_push trail.literals c.args.literal in
    omega (arith, few, long, c.self.invariant.start_room, c.self.invariant.few, ap (λ (t : TrailState). length t.starts) pushed)

pub invariant_of-self : goal.invariant_of-self
invariant_of-self c =
    let trail = c.args.self.now in
    let ordered = c.keeps_invariant.ensures.ordered in
    let pushed = c.self.view_is ∙ c.push.ensures in
    let start = c.len-place.result in
    let value = c.len-place.ensures.value in
    let starts = ap (λ (t : TrailState). t.starts) pushed in
    let long = ap (λ (t : TrailState). length t.literals) pushed ∙ length_push trail.literals c.args.literal in
    let head = ap (λ (t : TrailState). t.head) pushed in
    let before = subst (λ n. All (λ s. s < n) c.self.inside.starts.items) (sym value) (subst (λ ss. All (λ s. s < length trail.literals) ss) (sym starts)
    ordered.decided) in
    let kept = IsTrailKept-decide c.self.inside.trues c.self.inside.reasons.items c.self.inside.places.items c.self.inside.starts.items c.self.inside.head
    (vec_capacity c.self.inside.reasons) (vec_capacity c.self.inside.starts) start c.self.invariant before (omega (arith, long, value))
    (omega (arith, head, c.requires.taken, value)) in
    subst (λ ss. IsTrailKept c.self.inside.trues c.self.inside.reasons.items c.self.inside.places.items ss c.self.inside.head
    (vec_capacity c.self.inside.reasons) (vec_capacity c.push_reserved.new.self)) (sym c.push_reserved.ensures.items)
    (subst (λ n. IsTrailKept c.self.inside.trues c.self.inside.reasons.items c.self.inside.places.items (c.self.inside.starts.items ++ start ∷ [])
    c.self.inside.head (vec_capacity c.self.inside.reasons) n) (sym c.push_reserved.ensures.capacity) kept)
