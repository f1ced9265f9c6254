use Rattle.std.proofs.Common.{◌<◌, arith, length}
use Rattle.std.specs.Prelude.{slice_index}
use Rattle.dist_space.specs.ClusterLaws.{has-cluster}
use Rattle.dist_check.proofs.layout.cluster_from_one.Goals as goal

pub overflow_add-result : goal.overflow_add-result
overflow_add-result c =
    let s = c.args.space.now in
    let own = has-cluster s c.keeps_invariant.ensures.space.frame c.args.member c.requires in
    let within : slice_index s.cluster_of c.args.member < length s.clusters.members = own.within in
    omega (arith, c.keeps_invariant.ensures.clusters, within)
