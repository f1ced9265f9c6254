-- Laws of packages and clusters of a frame: a name has one package, a package has one cluster, and a cluster has
-- exactly what is clustered with one of it. No public clause cites them; proofs do, those of the crates above too.
use Rattle.std.proofs.Common.{◌≡◌, ◌≢◌, ℕ, ◌<◌, List, [], Some, length, get_or, map, sym, ap, subst, ◌∙◌, inl, inr}
use Rattle.std.proofs.Common.{arith, slice_get}
use Rattle.std.specs.Prelude.{AllPairs, Contains, IsSomeAnd, slice_index}
use Rattle.std.specs.Option.{option_map}
use Rattle.std.proofs.lemmas.Bool.{cases_lt}
use Rattle.std.proofs.lemmas.List.{length-map}
use Rattle.std.proofs.lemmas.List.Elements.{All-contains}
use Rattle.std.proofs.lemmas.Option.{get_or_from_slice_get, slice_get-map, slice_get_within}
use Rattle.dist_base.specs.ListLaws.{at-has, element-at, found-at, within-from}
use Rattle.dist_cluster.specs.Partition.{IsClusterOf, IsIn}
use Rattle.dist_cluster.specs.Relation.{Member, AreClustered}
use Rattle.dist_repo.specs.declared.package.Package.{Package}
use Rattle.dist_classes.specs.Answers.{member_of}
use Rattle.dist_space.specs.Space.{IsFrame, SpaceView}

-- ---- one package of a name

pub names-apart : (packages : List Package) (m n : ℕ) (p q : Package)
    → AllPairs (λ (a b : Package). a.name ≢ b.name) packages → slice_get packages m ≡ Some p
    → slice_get packages n ≡ Some q → p.name ≡ q.name → m ≡ n
names-apart packages m n p q apart first second same =
    elim (cases_lt m n) [
      | inl less ↦ absurd (apart m n p less (slice_get_within packages n q second)
          (ap (λ (x : Package). x.name) (get_or_from_slice_get packages m p p first) ∙ same
          ∙ sym (ap (λ (x : Package). x.name) (get_or_from_slice_get packages n q p second))))
      | inr more ↦ elim (cases_lt n m) [
        | inl less ↦ absurd (apart n m p less (slice_get_within packages m p first)
            (ap (λ (x : Package). x.name) (get_or_from_slice_get packages n q p second) ∙ sym same
            ∙ sym (ap (λ (x : Package). x.name) (get_or_from_slice_get packages m p p first))))
        | inr also ↦ omega arith
      ]
    ]

-- the cluster of a package
pub record HasCluster (s : SpaceView) (r : ℕ) : Type 0 where
  pub within : slice_index s.cluster_of r < length s.clusters.members
  pub there : Contains (get_or s.clusters.members (slice_index s.cluster_of r) []) r

module _ (s : SpaceView) (frame : IsFrame s) where
  -- a package as a member
  pub member-at : (m : ℕ) (p : Package) → slice_get s.repository.packages m ≡ Some p
      → slice_get (map member_of s.repository.packages) m ≡ Some (member_of p)
  member-at m p is = slice_get-map member_of s.repository.packages m ∙ ap (option_map member_of) is

  -- ---- the cluster of a package

  pub placed-in : (c m : ℕ) → IsIn s.clusters.members c m → slice_index s.cluster_of m ≡ c
  placed-in c m is_in = get_or_from_slice_get s.cluster_of m c 0 ((frame.placed c m).0 is_in)

  pub has-cluster : (m : ℕ) → m < length s.repository.packages → HasCluster s m
  has-cluster m short =
      let every = frame.clusters.partition.every m (omega (arith, length-map s.repository.packages member_of)) in
      let at = found-at (λ (cluster : List ℕ). Contains cluster m) s.clusters.members every in
      let is_in : IsIn s.clusters.members at.place m =
      at-has (λ (cluster : List ℕ). Contains cluster m) s.clusters.members at.place at.element at.is at.holds in
      let same : slice_index s.cluster_of m ≡ at.place = placed-in at.place m is_in in
      let In : ℕ → Type 0 = λ c. Contains (get_or s.clusters.members c []) m in
      record {
        within = let inside = slice_get_within s.clusters.members at.place at.element at.is in omega arith;
        there = subst In (sym same) (subst (λ (cluster : List ℕ). Contains cluster m)
            (sym (get_or_from_slice_get s.clusters.members at.place at.element [] at.is)) at.holds);
      }

  -- a cluster has exactly what is clustered with one of it
  pub whole-at : (c m : ℕ) → c < length s.clusters.members → Contains (get_or s.clusters.members c []) m
      → IsClusterOf (map member_of s.repository.packages) (get_or s.clusters.members c []) m
  whole-at c m short there =
      All-contains (IsClusterOf (map member_of s.repository.packages) (get_or s.clusters.members c []))
      (get_or s.clusters.members c []) m (frame.clusters.partition.whole c [] short) there

  -- the package of a member
  pub record PackageOf (m : ℕ) : Type 0 where
    pub package_is : Package
    pub is : slice_get s.repository.packages m ≡ Some package_is

  pub in-package : (c m : ℕ) → c < length s.clusters.members → Contains (get_or s.clusters.members c []) m → PackageOf m
  in-package c m short there =
      let together = (whole-at c m short there m).0 there in
      let Second : Member → Type 0 = λ a. IsSomeAnd (slice_get (map member_of s.repository.packages) m)
      (λ b. AreClustered a b) in
      let inside = within-from Second (map member_of s.repository.packages) m together in
      let at = element-at s.repository.packages m (omega (arith, length-map s.repository.packages member_of)) in
      record { package_is = at.element; is = at.is }
