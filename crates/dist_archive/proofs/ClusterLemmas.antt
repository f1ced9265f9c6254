-- The packages of a cluster by their numbers, and its top.
use Rattle.std.proofs.Common.{◌≡◌, ◌↔◌, ℕ, ◌<◌, List, [], Some, length, get_or, map, refl, sym, subst, slice_get}
use Rattle.std.specs.Prelude.{All, Contains, IsSomeAnd}
use Rattle.std.proofs.lemmas.List.Elements.{All-contains}
use Rattle.std.proofs.lemmas.Option.{get_or_from_slice_get, slice_get_within}
use Rattle.dist_base.specs.ListLaws.{any-contained, at-has, contains-at, element-at, found-at, has-at, here-at, place-of}
use Rattle.dist_version.specs.Order.{IsBelow}
use Rattle.dist_version.specs.Spelling.{IsVersion}
use Rattle.dist_cluster.specs.Partition.{IsClusterOf, IsIn}
use Rattle.dist_cluster.specs.Relation.{AreClustered, Member}
use Rattle.dist_cluster.specs.Top.{IsTop, IsVersionIn}
use Rattle.dist_repo.specs.declared.package.Package.{Package}
use Rattle.dist_classes.specs.Answers.{member_of}
use Rattle.dist_classes.specs.VersionOrderLaws.{not-above_below}
use Rattle.dist_space.specs.ClusterLaws.{in-package, member-at}
use Rattle.dist_space.specs.Space.{IsFrame, SpaceView}
use Rattle.dist_future.specs.Future.{IsAboveCluster, IsInClusterOf}
use Rattle.dist_archive.specs.Steps.{IsOfCluster}

module _ (s : SpaceView) (frame : IsFrame s) (cluster : ℕ) where
  -- a cluster has a package
  pub cluster-some : cluster < length s.clusters.members → (c : Package) × IsOfCluster s cluster c
  cluster-some short =
      let at = element-at s.clusters.members cluster short in
      let is : get_or s.clusters.members cluster [] ≡ at.element = get_or_from_slice_get s.clusters.members cluster at.element [] at.is in
      let some : 0 < length at.element = All-contains (λ (l : List ℕ). 0 < length l) s.clusters.members at.element frame.clusters.partition.some
      (contains-at s.clusters.members cluster at.element at.is) in
      let first = element-at at.element 0 some in
      let there : Contains at.element first.element = contains-at at.element 0 first.element first.is in
      let of = in-package s frame cluster first.element short (subst (λ (l : List ℕ). Contains l first.element) (sym is) there) in (
        of.package_is,
        record {
          member = first.element;
          in_cluster = at-has (λ (l : List ℕ). Contains l first.element) s.clusters.members cluster at.element at.is there;
          is = of.is;
        },
      )

  module _ (c : Package) (of : IsOfCluster s cluster c) (members : List ℕ) (are : slice_get s.clusters.members cluster ≡ Some members) where
    abbrev keys : List Member
    keys = map member_of s.repository.packages

    whole : IsClusterOf keys members of.member
    whole =
        let all : All (IsClusterOf keys members) members = All-contains (λ (l : List ℕ). All (IsClusterOf keys l) l) s.clusters.members members
        frame.clusters.partition.whole (contains-at s.clusters.members cluster members are) in
        All-contains (IsClusterOf keys members) members of.member all
        (has-at (λ (l : List ℕ). Contains l of.member) s.clusters.members cluster members are of.in_cluster)

    pub member-in : (k : ℕ) (q : Package) → slice_get s.repository.packages k ≡ Some q → Contains members k → IsInClusterOf s.repository c q
    member-in k q is there =
        let together = (whole k).0 there in
        let Second : Member → Type 0 = λ a. IsSomeAnd (slice_get keys k) (λ b. AreClustered a b) in
        record {
          there = contains-at s.repository.packages k q is;
          clustered = has-at (λ b. AreClustered (member_of c) b) keys k (member_of q) (member-at s frame k q is)
              (has-at Second keys of.member (member_of c) (member-at s frame of.member c of.is) together);
        }

    pub in-member : (k : ℕ) (q : Package) → slice_get s.repository.packages k ≡ Some q → IsInClusterOf s.repository c q → Contains members k
    in-member k q is inside =
        let Second : Member → Type 0 = λ a. IsSomeAnd (slice_get keys k) (λ b. AreClustered a b) in
        (whole k).1 (at-has Second keys of.member (member_of c) (member-at s frame of.member c of.is)
        (at-has (λ b. AreClustered (member_of c) b) keys k (member_of q) (member-at s frame k q is) inside.clustered))

    -- members are numbers of packages
    pub member-package : (k : ℕ) → Contains members k → k < length s.repository.packages
    member-package k there =
        let short = slice_get_within s.clusters.members cluster members are in
        let is : get_or s.clusters.members cluster [] ≡ members = get_or_from_slice_get s.clusters.members cluster members [] are in
        let of_k = in-package s frame cluster k short (subst (λ (l : List ℕ). Contains l k) (sym is) there) in
        slice_get_within s.repository.packages k of_k.package_is of_k.is

    -- ---- the top

    module _ (top : List ℕ) (is_top : slice_get s.clusters.tops cluster ≡ Some top) where
      top-is : IsTop keys members top
      top-is =
          let short = slice_get_within s.clusters.members cluster members are in
          let each = frame.clusters.tops.each cluster short in
          let a : get_or s.clusters.members cluster [] ≡ members = get_or_from_slice_get s.clusters.members cluster members [] are in
          let b : get_or s.clusters.tops cluster [] ≡ top = get_or_from_slice_get s.clusters.tops cluster top [] is_top in
          subst (λ (t : List ℕ). IsTop keys members t) b (subst (λ (l : List ℕ). IsTop keys l (get_or s.clusters.tops cluster [])) a each)

      pub above-from : (version : List ℕ) → IsVersion version → IsBelow top version → IsAboveCluster s.repository c version
      above-from version is_version below = record {
        is_version = is_version;
        above = λ q inside.
            let at = place-of s.repository.packages q inside.there in
            let there = in-member at.place q at.is inside in
            let among : IsVersionIn keys members q.version =
            any-contained (λ n. IsSomeAnd (slice_get keys n) (λ m. m.version ≡ q.version)) members at.place there
            (at-has (λ (m : Member). m.version ≡ q.version) keys at.place (member_of q) (member-at s frame at.place q at.is) refl) in
            not-above_below top q.version version (top-is.greatest q.version among) below;
      }

      pub above-top : (version : List ℕ) → IsAboveCluster s.repository c version → IsBelow top version
      above-top version above =
          let at = found-at (λ n. IsSomeAnd (slice_get keys n) (λ m. m.version ≡ top)) members top-is.there in
          let k : ℕ = at.element in
          let there : Contains members k = contains-at members at.place k at.is in
          let own = element-at s.repository.packages k (member-package k there) in
          let same : own.element.version ≡ top = has-at (λ (m : Member). m.version ≡ top) keys k (member_of own.element)
          (member-at s frame k own.element own.is) at.holds in
          subst (λ (v : List ℕ). IsBelow v version) same (above.above own.element (member-in k own.element own.is there))

-- the number of a package is in the cluster exactly where the package is
pub in-cluster : (s : SpaceView) (frame : IsFrame s) (cluster : ℕ) (c : Package) → IsOfCluster s cluster c → (k : ℕ) (q : Package)
    → slice_get s.repository.packages k ≡ Some q → IsIn s.clusters.members cluster k ↔ IsInClusterOf s.repository c q
in-cluster s frame cluster c of k q is =
    let at = here-at (λ (l : List ℕ). Contains l of.member) s.clusters.members cluster of.in_cluster in (
      (λ in_k. member-in s frame cluster c of at.element at.is k q is
          (has-at (λ (l : List ℕ). Contains l k) s.clusters.members cluster at.element at.is in_k)),
      λ inside. at-has (λ (l : List ℕ). Contains l k) s.clusters.members cluster at.element at.is
          (in-member s frame cluster c of at.element at.is k q is inside),
    )
