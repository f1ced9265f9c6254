-- The packages of stanzas that read can be put in order.
use Rattle.std.proofs.Common.{◌≡◌, true, false, cond, List, [], ◌∷◌, ◌++◌, Ordering, Less, Equal, Greater, nat_cmp, refl, sym, ap, ◌∙◌, subst}
use Rattle.std.proofs.Common.{inl, inr, arith}
use Rattle.std.specs.Cmp.Lexicographic.{slice_cmp}
use Rattle.std.specs.List.{All, Any, Contains}
use Rattle.std.specs.Ordering.{ordering_then, ordering_reverse, is_lt, is_eq}
use Rattle.std.proofs.lemmas.Bool.{cases_Bool}
use Rattle.std.proofs.lemmas.List.{length-append, get_or_append_left}
use Rattle.std.proofs.lemmas.List.Quantifiers.{Any-push}
use Rattle.std.proofs.lemmas.Map.Text.{is_eq-slice_cmp}
use Rattle.std.proofs.lemmas.Slice.Eq.{bytes_eq-Decides}
use Rattle.dist_base.specs.ListLaws.{pairs-head, pairs-tail}
use Rattle.dist_version.specs.Order.{version_cmp}
use Rattle.std.proofs.lemmas.List.Elements.{All-nil, All-cons, All-head, All-tail, All-push, All-weaker, All-contains, Contains-push, Contains-append_left}
use Rattle.std.proofs.lemmas.List.Elements.{Contains-append_right, Contains-append_cases, All-contains_itself}
use Rattle.std.proofs.lemmas.List.Kept.{AllPairs-cons}
use Rattle.dist_repo.specs.Order.{package_cmp, IsInOrder, IsSamePackage}
use Rattle.dist_repo.specs.TotalLaws.{package_total}
use Rattle.dist_repo.specs.declared.package.Package.{Package}
use Rattle.dist_package.specs.FirstFault.{Read}

-- ---- a package is put in its place

abbrev IsBelow : Package → Package → Type 0
IsBelow p q = package_cmp p q ≡ Less

unfoldable placed : Package → List Package → List Package
placed p [] = p ∷ []
placed p (q ∷ qs) = cond (is_lt (package_cmp p q)) (p ∷ q ∷ qs) (q ∷ placed p qs)

placed-all : (P : Package → Type 0) (p : Package) (ps : List Package) → P p → All P ps → All P (placed p ps)
unfolding placed
placed-all P p [] here all = All-cons P p [] here all
placed-all P p (q ∷ qs) here all = elim (cases_Bool (is_lt (package_cmp p q))) [
  | inl less ↦ rw less (All-cons P p (q ∷ qs) here all)
  | inr other ↦ rw other (All-cons P q (placed p qs) (All-head P q qs all) (placed-all P p qs here (All-tail P q qs all)))
]

less_from_test : (o : Ordering) → is_lt o ≡ true → o ≡ Less
less_from_test Less h = refl
less_from_test Equal h = cc
less_from_test Greater h = cc

greater_from_tests : (o : Ordering) → is_lt o ≡ false → ¬ (o ≡ Equal) → o ≡ Greater
greater_from_tests Less h other = cc
greater_from_tests Equal h other = absurd (other refl)
greater_from_tests Greater h other = refl

then_equal : (o q : Ordering) → ordering_then o q ≡ Equal → (o ≡ Equal) × (q ≡ Equal)
then_equal Less q h = cc
then_equal Equal q h = (refl, h)
then_equal Greater q h = cc

-- packages that tie have one name and equal versions
same_from_tie : (p q : Package) → package_cmp p q ≡ Equal → IsSamePackage p q
same_from_tie p q tie =
    let both = then_equal (slice_cmp nat_cmp p.name q.name) (version_cmp p.version q.version) tie in
    ((bytes_eq-Decides p.name q.name).0 (sym (is_eq-slice_cmp p.name q.name) ∙ ap is_eq both.0), both.1)

below-all : (q : Package) (qs : List Package) → IsInOrder (q ∷ qs) → All (IsBelow q) qs
below-all q qs ordered = All-weaker (Contains qs) (IsBelow q) (pairs-head IsBelow q qs ordered) qs (All-contains_itself qs)

placed-order : (p : Package) (ps : List Package) → IsInOrder ps → All (λ q. ¬ IsSamePackage q p) ps → IsInOrder (placed p ps)
unfolding placed
placed-order p [] ordered apart = AllPairs-cons IsBelow p [] (All-nil (IsBelow p)) ordered
placed-order p (q ∷ qs) ordered apart = elim (cases_Bool (is_lt (package_cmp p q))) [
  | inl less ↦
      let below : IsBelow p q = less_from_test (package_cmp p q) less in
      rw less (AllPairs-cons IsBelow p (q ∷ qs) (All-cons (IsBelow p) q qs below
      (All-weaker (IsBelow q) (IsBelow p) (λ r. package_total.trans p q r below) qs (below-all q qs ordered))) ordered)
  | inr other ↦
      let untied : ¬ (package_cmp p q ≡ Equal) = λ tie. All-head (λ q. ¬ IsSamePackage q p) q qs apart
      (same_from_tie q p (package_total.antisymm q p ∙ ap ordering_reverse tie)) in
      let above : IsBelow q p = package_total.antisymm q p ∙ ap ordering_reverse (greater_from_tests (package_cmp p q) other untied) in
      rw other (AllPairs-cons IsBelow q (placed p qs) (placed-all (IsBelow q) p qs above (below-all q qs ordered))
      (placed-order p qs (pairs-tail IsBelow q qs ordered) (All-tail (λ q. ¬ IsSamePackage q p) q qs apart)))
]

placed-here : (p : Package) (ps : List Package) → Contains (placed p ps) p
unfolding placed
placed-here p [] = Contains-push [] p
placed-here p (q ∷ qs) = elim (cases_Bool (is_lt (package_cmp p q))) [
  | inl less ↦ rw less (Contains-append_left (p ∷ []) (q ∷ qs) p (Contains-push [] p))
  | inr other ↦ rw other (Contains-append_right (q ∷ []) (placed p qs) p (placed-here p qs))
]

placed-kept : (p : Package) (ps : List Package) (r : Package) → Contains ps r → Contains (placed p ps) r
unfolding placed
placed-kept p [] r there = absurd (omega (arith, there.1))
placed-kept p (q ∷ qs) r there = elim (cases_Bool (is_lt (package_cmp p q))) [
  | inl less ↦ rw less (Contains-append_right (p ∷ []) (q ∷ qs) r there)
  | inr other ↦ rw other (elim (Contains-append_cases (q ∷ []) qs r there) [
    | inl first ↦ Contains-append_left (q ∷ []) (placed p qs) r first
    | inr later ↦ Contains-append_right (q ∷ []) (placed p qs) r (placed-kept p qs r later)
  ])
]

-- ---- the packages of reads

-- packages in order, which are those of the reads
pub record AreOrdered (reads : List Read) : Type 0 where
  pub packages : List Package
  pub in_order : IsInOrder packages
  pub from_reads : All (λ p. Any (λ read. read.package_ ≡ p) reads) packages
  pub all_reads : All (λ read. Contains packages read.package_) reads

-- one of the reads has this package
abbrev pub HasPackageOf : List Read → Package → Type 0
HasPackageOf reads p = Any (λ read. read.package_ ≡ p) reads

from-more : (reads : List Read) (read : Read) (p : Package) → HasPackageOf reads p → HasPackageOf (reads ++ read ∷ []) p
from-more reads read p (k, x, within, at, is) =
    (k, x, omega (arith, within, length-append reads (read ∷ [])), get_or_append_left reads (read ∷ []) x k within ∙ at, is)

pub ordered_none : AreOrdered []
ordered_none = record {
  packages = [];
  in_order = λ i j d before within. absurd (omega (arith, within));
  from_reads = All-nil (λ p. HasPackageOf [] p);
  all_reads = All-nil (λ read. Contains [] read.package_);
}

-- one read more, whose package was there
pub ordered_again : (reads : List Read) (read : Read) → AreOrdered reads → HasPackageOf reads read.package_ → AreOrdered (reads ++ read ∷ [])
ordered_again reads read o (k, x, within, at, is) = record {
  packages = o.packages;
  in_order = o.in_order;
  from_reads = All-weaker (HasPackageOf reads) (HasPackageOf (reads ++ read ∷ [])) (from-more reads read) o.packages o.from_reads;
  all_reads = All-push (λ r. Contains o.packages r.package_) reads read o.all_reads
      (subst (Contains o.packages) is (All-contains (λ r. Contains o.packages r.package_) reads x o.all_reads (k, within, at)));
}

-- one read more, whose name and version are new
pub ordered_more : (reads : List Read) (read : Read) → AreOrdered reads → All (λ r. ¬ IsSamePackage r.package_ read.package_) reads
    → AreOrdered (reads ++ read ∷ [])
ordered_more reads read o fresh =
    let p = read.package_ in
    let apart : All (λ q. ¬ IsSamePackage q p) o.packages = All-weaker (HasPackageOf reads) (λ q. ¬ IsSamePackage q p)
    (λ q (k, x, within, at, is) same. All-contains (λ r. ¬ IsSamePackage r.package_ p) reads x fresh (k, within, at)
    (subst (λ (y : Package). IsSamePackage y p) (sym is) same)) o.packages o.from_reads in
    record {
      packages = placed p o.packages;
      in_order = placed-order p o.packages o.in_order apart;
      from_reads = placed-all (HasPackageOf (reads ++ read ∷ [])) p o.packages
          (Any-push (λ r. r.package_ ≡ p) reads read refl)
          (All-weaker (HasPackageOf reads) (HasPackageOf (reads ++ read ∷ [])) (from-more reads read) o.packages o.from_reads);
      all_reads = All-push (λ r. Contains (placed p o.packages) r.package_) reads read
          (All-weaker (λ r. Contains o.packages r.package_) (λ r. Contains (placed p o.packages) r.package_) (λ r. placed-kept p o.packages r.package_) reads
          o.all_reads)
          (placed-here p o.packages);
    }
