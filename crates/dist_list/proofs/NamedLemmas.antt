-- The package that a text names.
use Rattle.std.proofs.Common.{◌≡◌, ◌↔◌, ℕ, ◌<◌, List, get_or, Option, Some, None, Less, Equal, nat_cmp, inl, inr, sym, ap, ◌∙◌, subst, arith}
use Rattle.std.specs.Cmp.Lexicographic.{slice_cmp}
use Rattle.std.specs.Option.{option_map_or}
use Rattle.std.specs.Ordering.{ordering_then}
use Rattle.std.proofs.lemmas.Bool.{cases_lt}
use Rattle.std.proofs.lemmas.Cmp.{alike_right, nat_list_cmp_total, tied_itself}
use Rattle.std.proofs.lemmas.Option.{get_or_from_slice_get, slice_get_within}
use Rattle.dist_base.specs.ListLaws.{here-at}
use Rattle.dist_version.specs.Order.{version_cmp}
use Rattle.dist_version.specs.OrderLaws.{version_total}
use Rattle.dist_version.specs.Spelling.{IsVersion, split_once}
use Rattle.dist_repo.specs.Order.{IsInOrder, package_cmp}
use Rattle.dist_repo.specs.Providers.{IsPackageAt}
use Rattle.dist_repo.specs.declared.package.Package.{Package}
use Rattle.dist_list.specs.NamedPackage.{IsNamed, equals_sign}

-- ---- a text that is cut, and the package of its parts

name_in : Option (List ℕ × List ℕ) → List ℕ → List ℕ
name_in cut other = option_map_or (λ s. s.0) cut other

version_in : Option (List ℕ × List ℕ) → List ℕ → List ℕ
version_in cut other = option_map_or (λ s. s.1) cut other

same_name : (name version name' version' : List ℕ) (cut : Option (List ℕ × List ℕ)) → cut ≡ Some (name, version) → cut ≡ Some (name', version')
    → name' ≡ name
unfolding name_in
same_name name version name' version' cut is is' = ap (λ (o : Option (List ℕ × List ℕ)). name_in o name) (sym is' ∙ is)

same_version : (name version name' version' : List ℕ) (cut : Option (List ℕ × List ℕ)) → cut ≡ Some (name, version) → cut ≡ Some (name', version')
    → version' ≡ version
unfolding version_in
same_version name version name' version' cut is is' = ap (λ (o : Option (List ℕ × List ℕ)). version_in o name) (sym is' ∙ is)

pub named-is : (packages : List Package) (text name version : List ℕ) (found : Option ℕ) → split_once equals_sign text ≡ Some (name, version)
    → ((n : ℕ) → (found ≡ Some n) ↔ (IsVersion version × IsPackageAt packages n name version))
    → (n : ℕ) → (found ≡ Some n) ↔ IsNamed packages text n
named-is packages text name version found cut is n = (
  (λ here. let at = (is n).0 here in record { name = name; version = version; spelled = cut; is_version = at.0; found = at.1 }),
  λ named. (is n).1
      (subst (λ (v : List ℕ). IsVersion v × IsPackageAt packages n name v)
      (same_version name version named.name named.version (split_once equals_sign text) cut named.spelled) (
        named.is_version,
        subst (λ (m : List ℕ). IsPackageAt packages n m named.version)
            (same_name name version named.name named.version (split_once equals_sign text) cut named.spelled) named.found,
      )),
)

pub none-named : (packages : List Package) (text : List ℕ) → split_once equals_sign text ≡ None
    → (n : ℕ) → (None ≡ Some n) ↔ IsNamed packages text n
none-named packages text cut n = (
  (λ here. cc),
  λ named. let e = named.spelled in cc,
)

-- ---- one package

-- packages of one name and of versions equal to one are a tie
tied : (p q : Package) (name version : List ℕ) → p.name ≡ name → q.name ≡ name → version_cmp p.version version ≡ Equal
    → version_cmp q.version version ≡ Equal → package_cmp p q ≡ Equal
tied p q name version first second at also =
    ap (λ o. ordering_then o (version_cmp p.version q.version))
    (ap (slice_cmp nat_cmp p.name) (second ∙ sym first) ∙ tied_itself nat_list_cmp_total p.name)
    ∙ (alike_right version_total q.version version p.version also ∙ at)

not-before : (packages : List Package) (name version : List ℕ) (n m : ℕ) → IsInOrder packages → IsPackageAt packages n name version
    → IsPackageAt packages m name version → ¬ (n < m)
not-before packages name version n m order first second before =
    let P : Package → Type 0 = λ p. (p.name ≡ name) × (version_cmp p.version version ≡ Equal) in
    let a = here-at P packages n first in
    let b = here-at P packages m second in
    let low : get_or packages n a.element ≡ a.element = get_or_from_slice_get packages n a.element a.element a.is in
    let high : get_or packages m a.element ≡ b.element = get_or_from_slice_get packages m b.element a.element b.is in
    let less : package_cmp a.element b.element ≡ Less = subst (λ (p : Package). package_cmp p b.element ≡ Less) low
    (subst (λ (q : Package). package_cmp (get_or packages n a.element) q ≡ Less) high
    (order n m a.element before (slice_get_within packages m b.element b.is))) in
    let tie = tied a.element b.element name version a.holds.0 b.holds.0 a.holds.1 b.holds.1 in
    cc

pub one-place : (packages : List Package) (name version : List ℕ) (n m : ℕ) → IsInOrder packages → IsPackageAt packages n name version
    → IsPackageAt packages m name version → m ≡ n
one-place packages name version n m order first second = elim (cases_lt n m) [
  | inl less ↦ absurd (not-before packages name version n m order first second less)
  | inr not_less ↦ elim (cases_lt m n) [
    | inl less ↦ absurd (not-before packages name version m n order second first less)
    | inr not_more ↦ omega (arith, not_less, not_more)
  ]
]

pub one-named : (packages : List Package) (text : List ℕ) (n m : ℕ) → IsInOrder packages → IsNamed packages text n → IsNamed packages text m → m ≡ n
one-named packages text n m order first second =
    one-place packages first.name first.version n m order first.found
    (subst (λ (v : List ℕ). IsPackageAt packages m first.name v)
    (same_version first.name first.version second.name second.version (split_once equals_sign text) first.spelled second.spelled)
    (subst (λ (x : List ℕ). IsPackageAt packages m x second.version)
    (same_name first.name first.version second.name second.version (split_once equals_sign text) first.spelled second.spelled) second.found))
