use Rattle.std.proofs.Common.{◌≡◌, ℕ, sym, subst, arith}
use Rattle.std.specs.Prelude.{Any, Contains}
use Rattle.dist_cluster.specs.Partition.{IsIn}
use Rattle.dist_cluster.specs.Top.{ClusterList}
use Rattle.dist_cluster.proofs.PartitionLemmas.{listed-place, listed-exact}
use Rattle.dist_cluster.proofs.cluster_list.Clusters.cluster_of.Goals as goal

pub index-requires : goal.index-requires
index-requires c =
    let Has : ClusterList → Type 0 = λ list. Any (λ cluster. Contains cluster c.args.member) list.members in
    let v = c.self.inside in
    let short = listed-place v.members v.tops.items v.cluster_of.items c.self.invariant c.args.member (subst Has (sym c.self.view_is) c.requires) in
    omega (arith, v.cluster_of.ok.0)

pub returns : goal.returns
returns c =
    let Has : ClusterList → Type 0 = λ list. Any (λ cluster. Contains cluster c.args.member) list.members in
    let v = c.self.inside in
    let short = listed-place v.members v.tops.items v.cluster_of.items c.self.invariant c.args.member (subst Has (sym c.self.view_is) c.requires) in
    let Exact : ClusterList → Type 0 = λ list. (e : ℕ) → (IsIn list.members e c.args.member → e ≡ c.index.result.now)
    × (e ≡ c.index.result.now → IsIn list.members e c.args.member) in
    subst Exact c.self.view_is (listed-exact v.members v.tops.items v.cluster_of.items c.self.invariant c.args.member c.index.result.now short c.index.ensures)
