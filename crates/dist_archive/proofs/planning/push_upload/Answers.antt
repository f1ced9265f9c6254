use Rattle.std.proofs.Common.{◌≡◌, Some, slice_get, subst}
use Rattle.dist_cluster.specs.Top.{ClusterList}
use Rattle.dist_archive.proofs.PlanningLemmas.{are-members, block-some, upload-pushed}
use Rattle.dist_archive.proofs.planning.push_upload.Goals as goal

pub block_of-requires-clause-members : goal.block_of-requires-clause-members
block_of-requires-clause-members c =
    let are = subst (λ (l : ClusterList). slice_get l.members c.args.cluster ≡ Some c.members.result.now) c.clusters.ensures c.members.ensures in
    are-members c.args.space.now c.keeps_invariant.ensures.space.frame c.args.later.now.packages c.args.cluster c.members.result.now are

pub package-requires : goal.package-requires
package-requires c =
    let are = subst (λ (l : ClusterList). slice_get l.members c.args.cluster ≡ Some c.members.result.now) c.clusters.ensures c.members.ensures in
    block-some c.args.space.now c.keeps_invariant.ensures.space.frame c.args.later.now.packages c.args.cluster c.members.result.now are
    c.requires.some c.in_ok-block.block.packages c.in_ok-block.ensures.brings

pub returns : goal.returns
returns c =
    let are = subst (λ (l : ClusterList). slice_get l.members c.args.cluster ≡ Some c.members.result.now) c.clusters.ensures c.members.ensures in
    upload-pushed c.args.space.now c.keeps_invariant.ensures.space.frame c.args.later.now.packages c.args.cluster c.members.result.now are
    c.requires.some c.in_ok-block.block c.package.result.now c.in_ok-version.version c.args.steps.now.items c.push.new.self.items
    c.in_ok-block.ensures.architecture c.in_ok-block.ensures.in_order c.in_ok-block.ensures.brings c.package.ensures c.in_ok-version.ensures
    c.in_ok-push.ensures.items
