use Rattle.std.proofs.Common.{List, ℕ, ap, arith, length}
use Rattle.std.proofs.lemmas.List.Filters.{dedup_is}
use Rattle.dist_cluster.specs.Top.{ClusterList}
use Rattle.dist_repair.proofs.MovedLemmas.{clusters-are, moved-few}
use Rattle.dist_repair.proofs.moved.moved_in.Goals as goal

pub returns : goal.returns
returns c =
    let are = clusters-are c.args.space.now c.args.members.now c.in_ok-clusters.clusters.items _ c.dedup.new.self.items c.in_ok-clusters.ensures
    c.sort_unstable.ensures.permutation c.sort_unstable.ensures.sorted (dedup_is _ _ _ c.dedup.ensures.filtered) in
    let count = ap (λ (xs : List ℕ). length xs) are in
    let few = moved-few c.args.space.now c.args.members.now in
    let all = ap (λ (clusters : ClusterList). length clusters.members) c.clusters.ensures in
    omega (arith, count, few, all, c.min.ensures, c.len.ensures, c.len-2.ensures)
