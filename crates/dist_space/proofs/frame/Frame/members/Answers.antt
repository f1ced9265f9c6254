use Rattle.std.proofs.Common.{ℕ, ◌<◌, [], List, length, ap, slice_get, subst, sym, ◌∙◌}
use Rattle.std.specs.Prelude.{All}
use Rattle.std.proofs.lemmas.Option.{get_or_from_slice_get}
use Rattle.dist_space.specs.Kept.{IsSizedFrame}
use Rattle.dist_space.specs.Space.{SpaceView}
use Rattle.dist_space.proofs.FrameLemmas.{members-within}
use Rattle.dist_space.proofs.frame.Frame.members.Goals as goal

pub returns-clause-within : goal.returns-clause-within
returns-clause-within c =
    let s : SpaceView = c.args.self.now in
    let frame = (subst IsSizedFrame c.self.view_is c.self.invariant).frame in
    let is = ap (λ (v : SpaceView). slice_get v.clusters.members c.args.cluster) (sym c.self.view_is) ∙ c.members.ensures in
    subst (λ (xs : List ℕ). All (λ (m : ℕ). m < length s.repository.packages) xs)
    (get_or_from_slice_get s.clusters.members c.args.cluster c.members.result.now [] is) (members-within s frame c.args.cluster c.requires)
