use Rattle.std.proofs.Common.{◌≡◌, ◌<◌, ℕ, List, refl, length, subst, sym}
use Rattle.std.specs.Prelude.{Any, Contains}
use Rattle.dist_base.specs.ListLaws.{within-from}
use Rattle.dist_cluster.specs.Partition.{IsIn}
use Rattle.dist_cluster.specs.Top.{ClusterList}
use Rattle.dist_repo.specs.PackageList.{IsPackageAnd, PackageList}
use Rattle.dist_space.specs.Space.{SpaceView}
use Rattle.dist_archive.specs.Moved.{IsClusterNamed}
use Rattle.dist_archive.proofs.MovedLemmas.{cluster-named, number-there}
use Rattle.dist_archive.proofs.archive.Archive.cluster_named.Goals as goal

pub cluster_of-requires : goal.cluster_of-requires
cluster_of-requires c =
    let s = c.space-space.result.now in
    let named = subst (λ (r : PackageList). IsPackageAnd r.packages c.in_ok-number.number (λ p. p.name ≡ c.args.name.now)) c.repo.ensures.value
    c.in_ok-number.ensures in
    subst (λ (l : ClusterList). Any (λ cluster. Contains cluster c.in_ok-number.number) l.members) (sym c.clusters.ensures)
    (number-there s c.keeps_invariant.ensures.space.frame c.in_ok-number.number c.args.name.now named)

pub returns-clause-named : goal.returns-clause-named
returns-clause-named c =
    let s = c.space-space.result.now in
    let number = c.in_ok-number.number in
    let named = subst (λ (r : PackageList). IsPackageAnd r.packages number (λ p. p.name ≡ c.args.name.now)) c.repo.ensures.value c.in_ok-number.ensures in
    let inside = subst (λ (l : ClusterList). IsIn l.members c.cluster_of.result number) c.clusters.ensures
    ((c.cluster_of.ensures c.cluster_of.result).1 refl) in
    subst (λ (x : SpaceView). IsClusterNamed x c.args.name.now c.cluster_of.result) c.space-space.ensures
    (cluster-named s number c.cluster_of.result c.args.name.now named inside)

pub returns-clause-within : goal.returns-clause-within
returns-clause-within c =
    let s = c.space-space.result.now in
    let number = c.in_ok-number.number in
    let inside = subst (λ (l : ClusterList). IsIn l.members c.cluster_of.result number) c.clusters.ensures
    ((c.cluster_of.ensures c.cluster_of.result).1 refl) in
    subst (λ (x : SpaceView). c.cluster_of.result < length x.clusters.members) c.space-space.ensures
    (within-from (λ (l : List ℕ). Contains l number) s.clusters.members c.cluster_of.result inside)
