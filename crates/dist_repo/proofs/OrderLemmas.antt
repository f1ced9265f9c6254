-- Packages in order: the package of a name and a version, and neighbours of one name.
use Rattle.std.proofs.Common.{◌≡◌, ◌≢◌, ◌↔◌, ℕ, ◌-◌, ◌<◌, ◌≤◌, List, length, get_or, nat_cmp, Ordering, Less, Equal, Greater, refl, sym, ap, ◌∙◌, subst, arith}
use Rattle.std.proofs.Common.{inl, inr, Some}
use Rattle.std.specs.Prelude.{Result}
use Rattle.std.specs.Cmp.Lexicographic.{slice_cmp}
use Rattle.std.specs.List.Sorted.{IsBinarySearchResult, IsSearchInRange}
use Rattle.std.specs.Ordering.{ordering_then, ordering_reverse}
use Rattle.std.specs.Result.{result_ok}
use Rattle.std.proofs.lemmas.Bool.{cases_lt}
use Rattle.std.proofs.lemmas.Cmp.{nat_list_cmp_total}
use Rattle.std.proofs.lemmas.List.{get_or_default}
use Rattle.dist_base.specs.ListLaws.{at-weaker}
use Rattle.dist_version.specs.Order.{version_cmp}
use Rattle.dist_repo.specs.Order.{key_cmp, IsFlat, IsInOrder}
use Rattle.dist_repo.specs.Providers.{IsPackageAt}
use Rattle.dist_repo.specs.TotalLaws.{key_total}
use Rattle.dist_repo.specs.declared.package.Package.{Package}
use Rattle.dist_repo.proofs.HeldLemmas.{same_names, names-tied, then-first, then-second}
use Rattle.dist_repo.proofs.Search.{searched-place}

abbrev key_of : Package → List ℕ × List ℕ
key_of p = (p.name, p.version)

tied-is : (name version : List ℕ) (p : Package) → key_cmp (key_of p) (name, version) ≡ Equal → (p.name ≡ name) × (version_cmp p.version version ≡ Equal)
tied-is name version p tied = (
  same_names p.name name (then-first (slice_cmp nat_cmp p.name name) (version_cmp p.version version) tied),
  then-second (slice_cmp nat_cmp p.name name) (version_cmp p.version version) tied,
)

is-tied : (name version : List ℕ) (p : Package) → (p.name ≡ name) × (version_cmp p.version version ≡ Equal) → key_cmp (key_of p) (name, version) ≡ Equal
is-tied name version p both = ap (λ o. ordering_then o (version_cmp p.version version)) (names-tied p.name name both.0) ∙ both.1

-- what a binary search for a name and a version answers
pub searched-package : (packages : List Package) (name version : List ℕ) (found : Result ℕ ℕ) → IsInOrder packages → IsSearchInRange found (length packages) →
    IsBinarySearchResult (λ (p : Package). key_cmp (p.name, p.version) (name, version)) packages found →
    (number : ℕ) → (result_ok found ≡ Some number) ↔ IsPackageAt packages number name version
searched-package packages name version found ordered within search_is number =
    let finds = searched-place key_cmp key_total key_of packages (name, version) found ordered within search_is number in
    let Tied : Package → Type 0 = λ p. key_cmp (key_of p) (name, version) ≡ Equal in
    let Is : Package → Type 0 = λ p. (p.name ≡ name) × (version_cmp p.version version ≡ Equal) in (
      (λ is. at-weaker Tied Is packages number (tied-is name version) (finds.0 is)),
      λ here. finds.1 (at-weaker Is Tied packages number (is-tied name version) here),
    )

-- ---- neighbours

cmp : List ℕ → List ℕ → Ordering
cmp = slice_cmp nat_cmp

-- the name of a lower package is not above that of a higher one
pub then-less : (a b : Ordering) → ordering_then a b ≡ Less → a ≢ Greater
then-less Less b is e = cc
then-less Equal b is e = cc
then-less Greater b is e = cc

-- a name between two equal names is equal to them
pub between-equal : (a b c : List ℕ) → slice_cmp nat_cmp a b ≢ Greater → slice_cmp nat_cmp b c ≢ Greater → a ≡ c → slice_cmp nat_cmp b c ≡ Equal
between-equal a b c first second same = decide (slice_cmp nat_cmp b c) refl
  where
    turned : slice_cmp nat_cmp a b ≡ ordering_reverse (slice_cmp nat_cmp b c)
    turned = nat_list_cmp_total.antisymm a b ∙ ap (λ x. ordering_reverse (slice_cmp nat_cmp b x)) same

    decide : (o : Ordering) → slice_cmp nat_cmp b c ≡ o → slice_cmp nat_cmp b c ≡ Equal
    decide Less is = absurd (first (turned ∙ ap ordering_reverse is))
    decide Equal is = is
    decide Greater is = absurd (second is)

-- where neighbours have different names, all have
pub flat-from_neighbours : (packages : List Package) → IsInOrder packages
    → ((k : ℕ) (d : Package) → 1 ≤ k → k < length packages → (get_or packages (k - 1) d).name ≢ (get_or packages k d).name) → IsFlat packages
flat-from_neighbours packages ordered apart i j d before within same =
    elim (cases_lt i (j - 1)) [
      | inl h ↦
          let a = (get_or packages i d).name in
          let b = (get_or packages (j - 1) d).name in
          let c = (get_or packages j d).name in
          let first = then-less (slice_cmp nat_cmp a b) _ (ordered i (j - 1) d h (omega arith)) in
          let second = then-less (slice_cmp nat_cmp b c) _ (ordered (j - 1) j d (omega arith) within) in
          apart j d (omega arith) within (same_names b c (between-equal a b c first second same))
      | inr h ↦
          let here : i ≡ j - 1 = omega arith in
          let P : ℕ → Type 0 = λ k. (get_or packages k d).name ≡ (get_or packages j d).name in
          apart j d (omega arith) within (subst P here same)
    ]

-- two neighbours of one name
pub not_flat-at : (packages : List Package) (n : ℕ) (x y : Package) → 1 ≤ n → n < length packages → x ≡ get_or packages (n - 1) x → y ≡ get_or packages n y
    → x.name ≡ y.name → ¬ IsFlat packages
not_flat-at packages n x y from within first second same flat =
    let second' : y ≡ get_or packages n x = second ∙ get_or_default packages n y x within in
    flat (n - 1) n x (omega arith) within (ap (λ (p : Package). p.name) (sym first) ∙ same ∙ ap (λ (p : Package). p.name) second')
