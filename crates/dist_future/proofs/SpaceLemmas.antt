-- Clusters, tops and classes of a space.
use Rattle.std.proofs.Common.{◌≡◌, ◌≢◌, ℕ, ◌<◌, List, [], Some, Equal, length, get_or, map, refl, sym, ap, subst, ◌∙◌, slice_get}
use Rattle.std.specs.Prelude.{AllPairs, Contains, IsSomeAnd, slice_index}
use Rattle.std.proofs.lemmas.Option.{slice_get-get_or, slice_get_within}
use Rattle.dist_base.specs.ListLaws.{at-has, contains-at, has-at, here-at, place-of, within-from}
use Rattle.dist_version.specs.Order.{version_cmp, IsBelow}
use Rattle.dist_version.specs.Spelling.{IsVersion}
use Rattle.dist_cluster.specs.Partition.{IsIn}
use Rattle.dist_cluster.specs.Relation.{Member, AreClustered, AreTogether}
use Rattle.dist_cluster.specs.Top.{IsTop, IsVersionIn}
use Rattle.dist_repo.specs.declared.package.Package.{Package}
use Rattle.dist_classes.specs.Answers.{member_of}
use Rattle.dist_classes.specs.ClassList.{IsInOneClass, IsOfClass, IsOfClassAt}
use Rattle.dist_classes.specs.declared.class_value.Class.{Class}
use Rattle.dist_classes.specs.declared.class_value.Class.TheVariants.{Point, Between, Above, Below}
use Rattle.dist_classes.specs.declared.class_value.Class.TheVariants as class
use Rattle.dist_future.specs.Future.{IsAboveCluster}
use Rattle.dist_space.specs.Space.{IsFrame, SpaceView, cluster_classes, fresh_classes, member_classes}
use Rattle.dist_future.proofs.ClassMatch.{ClassLaws}
use Rattle.dist_space.specs.ClusterLaws.{has-cluster, in-package, member-at, names-apart, placed-in, whole-at}
use Rattle.dist_classes.specs.VersionOrderLaws.{alike-left, alike-right, not-above_below, not-both}

-- ---- classes of equal versions

class-same : (class : Class) (v w : List ℕ) → version_cmp v w ≡ Equal → IsOfClass class v → IsOfClass class w
class-same (Point c) v w same is = sym (alike-left v w c same) ∙ is
class-same (Between a b) v w same is = (sym (alike-right v w a same) ∙ is.0, sym (alike-left v w b same) ∙ is.1)
class-same (Above a) v w same is = sym (alike-right v w a same) ∙ is
class-same (Below b) v w same is = sym (alike-left v w b same) ∙ is
class-same class.Any v w same is = tt

pub class_at-same : (classes : List Class) (k : ℕ) (v w : List ℕ) → version_cmp v w ≡ Equal → IsOfClassAt classes k v → IsOfClassAt classes k w
class_at-same classes k v w same is =
    let at = here-at (λ class. IsOfClass class v) classes k is in
    at-has (λ class. IsOfClass class w) classes k at.element at.is (class-same at.element v w same at.holds)

-- ---- one package of a name

pub one-of-name : (packages : List Package) (p q : Package) → AllPairs (λ (a b : Package). a.name ≢ b.name) packages → Contains packages p → Contains packages q
    → p.name ≡ q.name → p ≡ q
one-of-name packages p q apart first second same =
    let a = place-of packages p first in
    let b = place-of packages q second in
    let one : a.place ≡ b.place = names-apart packages a.place b.place p q apart a.is b.is same in
    let at : slice_get packages b.place ≡ Some p = ap (λ (k : ℕ). slice_get packages k) (sym one) ∙ a.is in
    let also = b.is in cc

module _ (s : SpaceView) (frame : IsFrame s) where
  pub clustered-same : (m n : ℕ) (p q : Package) → slice_get s.repository.packages m ≡ Some p → slice_get s.repository.packages n ≡ Some q
      → AreClustered (member_of p) (member_of q)
      → slice_index s.cluster_of n ≡ slice_index s.cluster_of m
  clustered-same m n p q is_p is_q clustered =
      let c = slice_index s.cluster_of m in
      let has = has-cluster s frame m (slice_get_within s.repository.packages m p is_p) in
      let Second : Member → Type 0 = λ a. IsSomeAnd (slice_get (map member_of s.repository.packages) n) (λ b. AreClustered a b) in
      let together : AreTogether (map member_of s.repository.packages) m n =
      at-has Second (map member_of s.repository.packages) m (member_of p) (member-at s frame m p is_p)
      (at-has (λ b. AreClustered (member_of p) b) (map member_of s.repository.packages) n (member_of q) (member-at s frame n q is_q) clustered) in
      let there = (whole-at s frame c m has.within has.there n).1 together in
      placed-in s frame c n (at-has (λ (cluster : List ℕ). Contains cluster n) s.clusters.members c (get_or s.clusters.members c [])
      (slice_get-get_or s.clusters.members c [] has.within) there)

  pub same-clustered : (m n : ℕ) (p q : Package) → slice_get s.repository.packages m ≡ Some p → slice_get s.repository.packages n ≡ Some q
      → slice_index s.cluster_of n ≡ slice_index s.cluster_of m
      → AreClustered (member_of p) (member_of q)
  same-clustered m n p q is_p is_q same =
      let c = slice_index s.cluster_of m in
      let has = has-cluster s frame m (slice_get_within s.repository.packages m p is_p) in
      let other = has-cluster s frame n (slice_get_within s.repository.packages n q is_q) in
      let In : ℕ → Type 0 = λ k. Contains (get_or s.clusters.members k []) n in
      let together = (whole-at s frame c m has.within has.there n).0 (subst In same other.there) in
      let Second : Member → Type 0 = λ a. IsSomeAnd (slice_get (map member_of s.repository.packages) n) (λ b. AreClustered a b) in
      has-at (λ b. AreClustered (member_of p) b) (map member_of s.repository.packages) n (member_of q) (member-at s frame n q is_q)
      (has-at Second (map member_of s.repository.packages) m (member_of p) (member-at s frame m p is_p) together)

  -- a package is in the cluster of its number
  pub in-its-cluster : (m : ℕ) → m < length s.repository.packages → IsIn s.clusters.members (slice_index s.cluster_of m) m
  in-its-cluster m short =
      let c = slice_index s.cluster_of m in
      let has = has-cluster s frame m short in
      at-has (λ (cluster : List ℕ). Contains cluster m) s.clusters.members c (get_or s.clusters.members c [])
      (slice_get-get_or s.clusters.members c [] has.within) has.there

  -- a cluster has what is clustered with one of it, and nothing else
  pub cluster-has : (c m n : ℕ) (p q : Package) → IsIn s.clusters.members c m → slice_get s.repository.packages m ≡ Some p
      → slice_get s.repository.packages n ≡ Some q → AreClustered (member_of p) (member_of q) → IsIn s.clusters.members c n
  cluster-has c m n p q is_in is_p is_q clustered =
      subst (λ (d : ℕ). IsIn s.clusters.members d n) (clustered-same m n p q is_p is_q clustered ∙ placed-in s frame c m is_in)
      (in-its-cluster n (slice_get_within s.repository.packages n q is_q))

  pub has-cluster-of : (c m n : ℕ) (p q : Package) → IsIn s.clusters.members c m → slice_get s.repository.packages m ≡ Some p
      → slice_get s.repository.packages n ≡ Some q → IsIn s.clusters.members c n → AreClustered (member_of p) (member_of q)
  has-cluster-of c m n p q is_in is_p is_q other =
      same-clustered m n p q is_p is_q (placed-in s frame c n other ∙ sym (placed-in s frame c m is_in))

  -- ---- tops

  top-is : (c : ℕ) → c < length s.clusters.members → IsTop (map member_of s.repository.packages) (get_or s.clusters.members c []) (get_or s.clusters.tops c [])
  top-is c short = frame.clusters.tops.each c short

  pub above-top : (m : ℕ) (p : Package) (v : List ℕ) → slice_get s.repository.packages m ≡ Some p
      → IsBelow (get_or s.clusters.tops (slice_index s.cluster_of m) []) v → IsBelow p.version v
  above-top m p v is above =
      let c = slice_index s.cluster_of m in
      let has = has-cluster s frame m (slice_get_within s.repository.packages m p is) in
      let at = place-of (get_or s.clusters.members c []) m has.there in
      let Has : ℕ → Type 0 = λ n. IsSomeAnd (slice_get (map member_of s.repository.packages) n) (λ (a : Member). a.version ≡ p.version) in
      let in_cluster : IsVersionIn (map member_of s.repository.packages) (get_or s.clusters.members c []) p.version = (
        has.there.0,
        m,
        has.there.1,
        has.there.2,
        at-has (λ (a : Member). a.version ≡ p.version) (map member_of s.repository.packages) m (member_of p)
            (member-at s frame m p is) refl,
      ) in
      not-above_below (get_or s.clusters.tops c []) p.version v ((top-is c has.within).greatest p.version in_cluster) above

  pub top-below : (m : ℕ) (p : Package) (v : List ℕ) → slice_get s.repository.packages m ≡ Some p → IsAboveCluster s.repository p v
      → IsBelow (get_or s.clusters.tops (slice_index s.cluster_of m) []) v
  top-below m p v is above =
      let c = slice_index s.cluster_of m in
      let has = has-cluster s frame m (slice_get_within s.repository.packages m p is) in
      let top = get_or s.clusters.tops c [] in
      let Has : ℕ → Type 0 = λ n. IsSomeAnd (slice_get (map member_of s.repository.packages) n) (λ (a : Member). a.version ≡ top) in
      let there = (top-is c has.within).there in
      let in_cluster : Contains (get_or s.clusters.members c []) there.1 = (there.0, there.2, there.3) in
      let q = in-package s frame c there.1 has.within in_cluster in
      let version : (member_of q.package_is).version ≡ top =
      has-at (λ (a : Member). a.version ≡ top) (map member_of s.repository.packages) there.1 (member_of q.package_is)
      (member-at s frame there.1 q.package_is q.is) there.4 in
      let is_in : IsIn s.clusters.members c there.1 = at-has (λ (cluster : List ℕ). Contains cluster there.1) s.clusters.members c
      (get_or s.clusters.members c []) (slice_get-get_or s.clusters.members c [] has.within) in_cluster in
      let clustered = same-clustered m there.1 p q.package_is is q.is (placed-in s frame c there.1 is_in) in
      subst (λ (t : List ℕ). IsBelow t v) version (above.above q.package_is
      (record { there = contains-at s.repository.packages there.1 q.package_is q.is; clustered = clustered }))

-- ---- classes of a cluster

module _ (laws : ClassLaws) (s : SpaceView) (frame : IsFrame s) where
  pub record HasClass (classes : List Class) (v : List ℕ) : Type 0 where
    pub class : ℕ
    pub is : IsOfClassAt classes class v

  one-of : (c : ℕ) (v : List ℕ) → c < length s.clusters.members → IsBelow (get_or s.clusters.tops c []) v → IsInOneClass (cluster_classes s c) v
  one-of c v short above =
      let are = frame.classes c short in
      subst (λ (classes : List Class). IsInOneClass classes v) (sym are.are) (laws.above (get_or s.clusters.tops c []) are.cuts are.rising v above)

  pub class-of : (c : ℕ) (v : List ℕ) → c < length s.clusters.members → IsBelow (get_or s.clusters.tops c []) v → HasClass (cluster_classes s c) v
  class-of c v short above = let one = one-of c v short above in record { class = one.number; is = one.holds }

  pub class-above : (c k : ℕ) (v : List ℕ) → c < length s.clusters.members → IsOfClassAt (cluster_classes s c) k v → IsBelow (get_or s.clusters.tops c []) v
  class-above c k v short is =
      let are = frame.classes c short in
      laws.below (get_or s.clusters.tops c []) are.cuts are.rising v k (subst (λ (classes : List Class). IsOfClassAt classes k v) are.are is)

  pub one-class : (c k l : ℕ) (v : List ℕ) → c < length s.clusters.members → IsOfClassAt (cluster_classes s c) k v → IsOfClassAt (cluster_classes s c) l v
      → k ≡ l
  one-class c k l v short first second =
      let one = one-of c v short (class-above c k v short first) in
      one.alone k first ∙ sym (one.alone l second)

  -- a version is of a class of a cluster exactly where it is above the cluster, and then of no other class
  cluster-short : (c m : ℕ) → IsIn s.clusters.members c m → c < length s.clusters.members
  cluster-short c m is_in = within-from (λ (cluster : List ℕ). Contains cluster m) s.clusters.members c is_in

  pub above-cluster : (c k m : ℕ) (q : Package) (v : List ℕ) → IsIn s.clusters.members c m → slice_get s.repository.packages m ≡ Some q → IsVersion v
      → IsOfClassAt (cluster_classes s c) k v → IsAboveCluster s.repository q v
  above-cluster c k m q v is_in is_q is_version class =
      let above : IsBelow (get_or s.clusters.tops c []) v = class-above c k v (cluster-short c m is_in) class in
      record {
        is_version = is_version;
        above = λ x in_cluster.
            let at = place-of s.repository.packages x in_cluster.there in
            let same : slice_index s.cluster_of at.place ≡ c = clustered-same s frame m at.place q x is_q at.is in_cluster.clustered
            ∙ placed-in s frame c m is_in in
            above-top s frame at.place x v at.is (subst (λ (d : ℕ). IsBelow (get_or s.clusters.tops d []) v) (sym same) above);
      }

  pub class-above-cluster : (c m : ℕ) (q : Package) (v : List ℕ) → IsIn s.clusters.members c m → slice_get s.repository.packages m ≡ Some q
      → IsAboveCluster s.repository q v → IsInOneClass (cluster_classes s c) v
  class-above-cluster c m q v is_in is_q above =
      one-of c v (cluster-short c m is_in)
      (subst (λ (d : ℕ). IsBelow (get_or s.clusters.tops d []) v) (placed-in s frame c m is_in) (top-below s frame m q v is_q above))

  -- a member is at no class of its cluster
  pub never-at : (m k : ℕ) (p : Package) → slice_get s.repository.packages m ≡ Some p → ¬ IsOfClassAt (member_classes s m) k p.version
  never-at m k p is at =
      let c = slice_index s.cluster_of m in
      let has = has-cluster s frame m (slice_get_within s.repository.packages m p is) in
      let less = above-top s frame m p p.version is (class-above c k p.version has.within at) in
      not-both p.version p.version less less

  -- ---- classes of a new name

  pub fresh-class : (x : ℕ) (v : List ℕ) → x < length s.names → IsInOneClass (fresh_classes s x) v
  fresh-class x v short =
      let are = frame.name_classes x short in
      subst (λ (classes : List Class). IsInOneClass classes v) (sym are.are) (laws.all are.cuts are.are_cuts.rising v)
