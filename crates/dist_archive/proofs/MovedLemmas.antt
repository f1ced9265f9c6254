-- Clusters that have moved.
use Rattle.std.proofs.Common.{◌≡◌, ℕ, ◌<◌, List, Some, length, get_or, slice_get, arith, refl, sym, subst, ◌∙◌}
use Rattle.std.specs.Prelude.{All, Any, Contains, IsSomeAnd}
use Rattle.std.proofs.lemmas.List.{length-map}
use Rattle.std.proofs.lemmas.Option.{slice_get-get_or, slice_get_within}
use Rattle.std.proofs.lemmas.List.Elements.{All-contains}
use Rattle.std.specs.declared.cmp.Ordering.TheVariants.{Equal}
use Rattle.dist_base.specs.ListLaws.{all-contained, any-contained, any-more, at-has, contains-at, element-at, found-at, has-at, here-at, place-of, within-from}
use Rattle.dist_version.specs.Order.{version_cmp}
use Rattle.dist_version.specs.Spelling.{IsVersion}
use Rattle.dist_repo.specs.PackageList.{IsPackageAnd}
use Rattle.dist_repo.specs.declared.package.Package.{Package}
use Rattle.dist_classes.specs.Answers.{member_of}
use Rattle.dist_classes.specs.VersionOrderLaws.{alike-right}
use Rattle.dist_cluster.specs.Partition.{IsIn}
use Rattle.dist_space.specs.Space.{IsFrame, SpaceView}
use Rattle.dist_future.specs.Future.{IsAboveCluster}
use Rattle.dist_future.specs.Outdated.{HoldsCluster}
use Rattle.dist_archive.specs.Archive.{ArchiveView}
use Rattle.dist_archive.specs.Moved.{IsClusterNamed, IsLeastHeld, IsMovedTo}
use Rattle.dist_archive.specs.MovedPrivate.{IsHeldAt}
use Rattle.dist_archive.specs.Steps.{IsOfCluster}
use Rattle.dist_archive.proofs.ClusterLemmas.{cluster-some, in-member, member-in, member-package}

module _ (v : ArchiveView) (frame : IsFrame v.space) (cluster : ℕ) (members : List ℕ)
    (are : slice_get v.space.clusters.members cluster ≡ Some members) where
  -- all names of the cluster, by the members
  pub names-held : (c : Package) (of : IsOfCluster v.space cluster c) (version : List ℕ) → All (λ m. IsHeldAt v m version) members
      → HoldsCluster v.space.repository v.packages c version
  names-held c of version each q inside =
      let at = place-of v.space.repository.packages q inside.there in
      let member = in-member v.space frame cluster c of members are at.place q at.is inside in
      has-at (λ (p : Package). Any (λ n. (n.name ≡ p.name) × (version_cmp n.version version ≡ Equal)) v.packages)
      v.space.repository.packages at.place q at.is (All-contains (λ m. IsHeldAt v m version) members at.place each member)

  pub held-names : (c : Package) (of : IsOfCluster v.space cluster c) (version : List ℕ) → HoldsCluster v.space.repository v.packages c version
      → All (λ m. IsHeldAt v m version) members
  held-names c of version holds = all-contained (λ m. IsHeldAt v m version) members (λ m there.
      let own = element-at v.space.repository.packages m (member-package v.space frame cluster c of members are m there) in
      at-has (λ (p : Package). Any (λ n. (n.name ≡ p.name) × (version_cmp n.version version ≡ Equal)) v.packages)
      v.space.repository.packages m own.element own.is
      (holds own.element (member-in v.space frame cluster c of members are m own.element own.is there)))

  pub moved-to : cluster < length v.space.clusters.members → (version : List ℕ)
      → ((c : Package) → IsOfCluster v.space cluster c → IsAboveCluster v.space.repository c version)
      → All (λ m. IsHeldAt v m version) members → IsMovedTo v.space v.packages cluster version
  moved-to short version above each =
      let some = cluster-some v.space frame cluster short in
      (some.0, some.1, above some.0 some.1, names-held some.0 some.1 version each)

  some-member : 0 < length members
  some-member = All-contains (λ (l : List ℕ). 0 < length l) v.space.clusters.members members frame.clusters.partition.some
      (contains-at v.space.clusters.members cluster members are)

  pub least-is : slice_get members 0 ≡ Some (get_or members 0 0)
  least-is = slice_get-get_or members 0 0 some-member

  pub least-within : get_or members 0 0 < length v.space.repository.packages
  least-within =
      let some = cluster-some v.space frame cluster (slice_get_within v.space.clusters.members cluster members are) in
      member-package v.space frame cluster some.0 some.1 members are (get_or members 0 0) (contains-at members 0 (get_or members 0 0) least-is)

  module _ (least : ℕ) (is_least : slice_get members 0 ≡ Some least) (q : Package) (is : slice_get v.space.repository.packages least ≡ Some q) where
    pub least-held : (n : Package) → Contains v.packages n → n.name ≡ q.name → IsLeastHeld v.space v.packages cluster n.version
    least-held n there named =
        let P : Package → Type 0 = λ p. Any (λ m. (m.name ≡ p.name) × (m.version ≡ n.version)) v.packages in
        let Q : ℕ → Type 0 = λ k. IsPackageAnd v.space.repository.packages k P in
        at-has (λ (l : List ℕ). IsSomeAnd (slice_get l 0) Q) v.space.clusters.members cluster members are
        (at-has Q members 0 least is_least
        (at-has P v.space.repository.packages least q is
        (any-contained (λ (m : Package). (m.name ≡ q.name) × (m.version ≡ n.version)) v.packages n there (named, refl))))

    -- what is held of the least member's name, in an archive that has moved the cluster
    pub least-there : (version : List ℕ) → IsMovedTo v.space v.packages cluster version
        → Any (λ n. (n.name ≡ q.name) × (version_cmp n.version version ≡ Equal)) v.packages
    least-there version moved =
        moved.3 q (member-in v.space frame cluster moved.0 moved.1 members are least q is (contains-at members 0 least is_least))

    pub moved-not : ((n : Package) → Contains v.packages n → n.name ≡ q.name → ⊥) → (version : List ℕ)
        → ¬ IsMovedTo v.space v.packages cluster version
    moved-not none version moved =
        let at = found-at (λ (n : Package). (n.name ≡ q.name) × (version_cmp n.version version ≡ Equal)) v.packages (least-there version moved) in
        none at.element (contains-at v.packages at.place at.element at.is) at.holds.0

    module _ (n : Package) (only : (m : Package) → Contains v.packages m → m.name ≡ q.name → n ≡ m) (version : List ℕ)
        (moved : IsMovedTo v.space v.packages cluster version) where
      pub moved-equal : version_cmp n.version version ≡ Equal
      moved-equal =
          let at = found-at (λ (m : Package). (m.name ≡ q.name) × (version_cmp m.version version ≡ Equal)) v.packages (least-there version moved) in
          subst (λ (m : Package). version_cmp m.version version ≡ Equal) (sym (only at.element (contains-at v.packages at.place at.element at.is) at.holds.0))
          at.holds.1

      pub moved-above : IsVersion n.version → IsAboveCluster v.space.repository moved.0 n.version
      moved-above is_version = record {
        is_version = is_version;
        above = λ p inside. alike-right n.version version p.version moved-equal ∙ moved.2.above p inside;
      }

      pub moved-names : All (λ m. IsHeldAt v m n.version) members
      moved-names = held-names moved.0 moved.1 n.version (λ p inside.
          any-more (λ (m : Package). (m.name ≡ p.name) × (version_cmp m.version version ≡ Equal))
          (λ (m : Package). (m.name ≡ p.name) × (version_cmp m.version n.version ≡ Equal))
          (λ m both. (both.0, alike-right n.version version m.version moved-equal ∙ both.1)) v.packages (moved.3 p inside))

-- ---- the cluster of a name

pub cluster-named : (s : SpaceView) (number cluster : ℕ) (name : List ℕ) → IsPackageAnd s.repository.packages number (λ p. p.name ≡ name)
    → IsIn s.clusters.members cluster number → IsClusterNamed s name cluster
cluster-named s number cluster name named inside =
    let at = here-at (λ (p : Package). p.name ≡ name) s.repository.packages number named in
    (at.element, record { member = number; in_cluster = inside; is = at.is }, at.holds)

pub number-there : (s : SpaceView) (frame : IsFrame s) (number : ℕ) (name : List ℕ) → IsPackageAnd s.repository.packages number (λ p. p.name ≡ name)
    → Any (λ cluster. Contains cluster number) s.clusters.members
number-there s frame number name named =
    let within = within-from (λ (p : Package). p.name ≡ name) s.repository.packages number named in
    frame.clusters.partition.every number (omega (arith, within, length-map s.repository.packages member_of))
