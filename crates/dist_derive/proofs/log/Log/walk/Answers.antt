use Rattle.std.proofs.Common.{◌∷◌, [], ℕ, Bool, subst}
use Rattle.dist_derive.specs.Cone.{IsClosedUnder}
use Rattle.dist_derive.specs.Marking.{HasAll, IsClosedAt}
use Rattle.dist_derive.proofs.ReachLemmas.{walks_none, walks_more}
use Rattle.dist_derive.proofs.log.Log.walk.Goals as goal

pub loop-place-init : goal.loop-place-init
loop-place-init c = walks_none c.args.self.now.clauses c.args.inputs c.args.first c.args.cone.now

pub loop-place-preserved : goal.loop-place-preserved
loop-place-preserved c =
    let next = c.close_at-grown.new.self in
    walks_more c.args.self.now.clauses c.args.inputs c.args.first c.loop-place.place c.args.cone.now c.loop-place.cone next c.loop-place.grown
    c.close_at-grown.result c.requires.inputs c.loop-place-test.true c.loop-place.invariant c.close_at-grown.ensures.grows
    (subst (λ clause. IsClosedAt next.members clause) c.clause.ensures.value c.close_at-grown.ensures.closed)
    (subst (λ clause. (has : ℕ → Bool) → HasAll has c.loop-place.cone.members → IsClosedUnder has (clause ∷ []) → HasAll has next.members)
    c.clause.ensures.value c.close_at-grown.ensures.least)
