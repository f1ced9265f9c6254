use Rattle.std.proofs.Common.{◌≡◌, ◌++◌, arith, subst}
use Rattle.dist_space.specs.Space.{SpaceView}
use Rattle.dist_history.specs.FollowText.{held_version}
use Rattle.dist_history.proofs.FollowLemmas.{no-version}
use Rattle.dist_history.proofs.TextLemmas.{first-within}
use Rattle.dist_history.proofs.followed.write_held_version.Goals as goal

pub package-requires : goal.package-requires
package-requires c =
    first-within c.space-space.result.now c.keeps_invariant.ensures.space.frame c.clusters-clusters.result.now c.clusters-clusters.ensures c.args.cluster
    c.members-members.result.now c.members-members.ensures

pub returns-else-cluster-len : goal.returns-else-cluster-len
returns-else-cluster-len c =
    subst (λ (s : SpaceView). c.args.out.now.items ≡ c.args.out.now.items ++ held_version s c.args.archive.now.packages c.args.cluster) c.space-space.ensures
    (no-version c.space-space.result.now c.args.archive.now.packages c.clusters-clusters.result.now c.clusters-clusters.ensures c.args.cluster
    c.args.out.now.items (omega (arith, c.len.ensures, c.if-cluster-len.false)))
