use Rattle.std.proofs.Common.{◌≡◌, Some, ap, slice_get, subst, sym, ◌∙◌}
use Rattle.std.proofs.lemmas.Bool.{false≢true}
use Rattle.dist_cluster.specs.Top.{ClusterList}
use Rattle.dist_space.specs.Space.{SpaceView}
use Rattle.dist_future.specs.Future.{IsAboveCluster}
use Rattle.dist_archive.specs.Archive.{ArchiveView}
use Rattle.dist_archive.specs.Steps.{IsOfCluster}
use Rattle.dist_archive.proofs.MembersLemmas.{AreEnough, are-enough}
use Rattle.dist_archive.proofs.archive.Archive.is_above_all.Goals as goal

pub is_above_each-requires : goal.is_above_each-requires
is_above_each-requires c =
    let s = c.self.inside.space in
    let clusters = c.clusters.ensures ∙ ap (λ (x : SpaceView). x.clusters) c.space-space.ensures in
    let are = subst (λ (l : ClusterList). slice_get l.members c.args.cluster ≡ Some c.members.result.now) clusters c.members.ensures in
    let enough = subst (λ (v : ArchiveView). AreEnough c.self.inside.held c.args.cluster c.args.version.now v) c.self.view_is
    (are-enough s c.self.inside.slots c.self.inside.names c.self.inside.held c.self.invariant c.args.cluster c.args.version.now) in
    (enough c.members.result.now c.of.result.now are c.of.ensures).0

pub returns-then-is_above_top : goal.returns-then-is_above_top
returns-then-is_above_top c =
    let s = c.self.inside.space in
    let clusters = c.clusters.ensures ∙ ap (λ (x : SpaceView). x.clusters) c.space-space.ensures in
    let are = subst (λ (l : ClusterList). slice_get l.members c.args.cluster ≡ Some c.members.result.now) clusters c.members.ensures in
    let enough = subst (λ (v : ArchiveView). AreEnough c.self.inside.held c.args.cluster c.args.version.now v) c.self.view_is
    (are-enough s c.self.inside.slots c.self.inside.names c.self.inside.held c.self.invariant c.args.cluster c.args.version.now) in
    λ p of.
    let same = c.space-space.ensures in
    let of_it = subst (λ (x : SpaceView). IsOfCluster x c.args.cluster p) (sym same) of in
    let top = subst (λ (x : SpaceView). IsAboveCluster x.repository p c.args.version.now) same
    ((c.is_above_top.ensures p of_it).0 c.if-is_above_top.true) in
    let both = (enough c.members.result.now c.of.result.now are c.of.ensures).1 p of in (
      (λ yes. both.0 top (c.is_above_each.ensures.0 yes)),
      λ above. c.is_above_each.ensures.1 (both.1 above),
    )

pub returns-else-is_above_top : goal.returns-else-is_above_top
returns-else-is_above_top c = λ p of.
    let same = c.space-space.ensures in
    let of_it = subst (λ (x : SpaceView). IsOfCluster x c.args.cluster p) (sym same) of in (
      (λ yes. absurd (false≢true (sym c.if-is_above_top.false ∙ yes))),
      λ above. absurd (false≢true (sym c.if-is_above_top.false ∙ (c.is_above_top.ensures p of_it).1
          (subst (λ (x : SpaceView). IsAboveCluster x.repository p c.args.version.now) (sym same) above.top))),
    )
