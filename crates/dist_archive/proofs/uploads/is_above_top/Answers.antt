use Rattle.std.proofs.Common.{◌≡◌, Some, slice_get, subst}
use Rattle.dist_base.specs.ListLaws.{element-at}
use Rattle.dist_version.specs.Order.{version_cmp}
use Rattle.dist_cluster.specs.Top.{ClusterList}
use Rattle.dist_archive.proofs.ClusterLemmas.{above-from, above-top}
use Rattle.dist_archive.proofs.OrderLemmas.{below-test}
use Rattle.dist_archive.proofs.uploads.is_above_top.Goals as goal

pub returns : goal.returns
returns c =
    let s = c.args.space.now in
    let frame = c.keeps_invariant.ensures.space.frame in
    let at = element-at s.clusters.members c.args.cluster c.requires in
    let top = subst (λ (l : ClusterList). slice_get l.tops c.args.cluster ≡ Some c.top.result.now) c.clusters.ensures c.top.ensures in
    let test = below-test c.is_lt.result c.compare.result (version_cmp c.top.result.now c.args.version.now) c.is_lt.ensures c.compare.ensures in
    λ p of. (
      (λ yes. above-from s frame c.args.cluster p of at.element at.is c.top.result.now top c.args.version.now c.keeps_invariant-2.ensures (test.0 yes)),
      λ above. test.1 (above-top s frame c.args.cluster p of at.element at.is c.top.result.now top c.args.version.now above),
    )
