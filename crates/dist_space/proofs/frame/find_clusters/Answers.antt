use Rattle.std.proofs.Common.{arith}
use Rattle.dist_space.proofs.FrameLemmas.{every-member, member-within}
use Rattle.dist_space.proofs.frame.find_clusters.Goals as goal

pub cluster_numbers-requires-clause-every : goal.cluster_numbers-requires-clause-every
cluster_numbers-requires-clause-every c = λ m short. every-member c.args.repo.now c.in_ok-clusters.clusters c.in_ok-clusters.ensures m (omega (arith, short))

pub cluster_numbers-requires-clause-within : goal.cluster_numbers-requires-clause-within
cluster_numbers-requires-clause-within c = λ k m is_in.
    omega (arith, member-within c.args.repo.now c.in_ok-clusters.clusters c.in_ok-clusters.ensures k m is_in)
