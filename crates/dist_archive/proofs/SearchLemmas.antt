-- A search for a name among packages in order.
use Rattle.std.proofs.Common.{◌≡◌, ◌⊎◌, ℕ, ◌+◌, ◌<◌, ◌≤◌, List, length, get_or, nat_cmp, Ordering, Less, Equal, Greater, sym, ap, refl, ◌∙◌, subst, arith}
use Rattle.std.proofs.Common.{inl, inr, slice_get, Some}
use Rattle.std.specs.Cmp.Lexicographic.{slice_cmp}
use Rattle.std.specs.Ordering.{ordering_reverse, ordering_then}
use Rattle.std.proofs.lemmas.Bool.{cases_lt}
use Rattle.std.proofs.lemmas.Cmp.{nat_list_cmp_total, tied_itself}
use Rattle.std.proofs.lemmas.Map.Lookups.{exact_bytes}
use Rattle.std.proofs.lemmas.Option.{get_or_from_slice_get, slice_get_within}
use Rattle.dist_base.specs.ListLaws.{at-has, found-at, same-at}
use Rattle.dist_version.specs.Order.{version_cmp}
use Rattle.dist_repo.specs.Order.{IsInOrder, package_cmp}
use Rattle.dist_repo.specs.PackageList.{IsPackageAnd}
use Rattle.dist_repo.specs.declared.package.Package.{Package}
use Rattle.dist_archive.specs.Steps.{IsHeld}

abbrev cmp : List ℕ → List ℕ → Ordering
cmp = slice_cmp nat_cmp

-- packages before `low` have names below the name, and those from `high` on names above it
pub record IsBetween (packages : List Package) (name : List ℕ) (low high : ℕ) : Type 0 where
  pub ordered : low ≤ high
  pub within : high ≤ length packages
  pub below : (k : ℕ) (p : Package) → k < low → slice_get packages k ≡ Some p → slice_cmp nat_cmp p.name name ≡ Less
  pub above : (k : ℕ) (p : Package) → high ≤ k → slice_get packages k ≡ Some p → slice_cmp nat_cmp name p.name ≡ Less

pub between-all : (packages : List Package) (name : List ℕ) (high : ℕ) → high ≡ length packages → IsBetween packages name 0 high
between-all packages name high is = record {
  ordered = omega arith;
  within = omega (arith, is);
  below = λ k p h at. absurd (omega (arith, h));
  above = λ k p h at. absurd (omega (arith, h, is, slice_get_within packages k p at));
}

greater-turned : (a b : List ℕ) → cmp a b ≡ Greater → cmp b a ≡ Less
greater-turned a b is = nat_list_cmp_total.antisymm b a ∙ ap ordering_reverse is

-- a name is not above that of a later package
not-after : (o : Ordering) (rest : Ordering) → ordering_then o rest ≡ Less → (o ≡ Less) ⊎ (o ≡ Equal)
not-after Less rest is = inl refl
not-after Equal rest is = inr refl
not-after Greater rest is = absurd (let no-one : Greater ≡ Less = is in cc)

module _ (packages : List Package) (ordered : IsInOrder packages) where
  names-rise : (i j : ℕ) (p q : Package) → i < j → slice_get packages i ≡ Some p → slice_get packages j ≡ Some q
      → (cmp p.name q.name ≡ Less) ⊎ (cmp p.name q.name ≡ Equal)
  names-rise i j p q less first second =
      let a : get_or packages i p ≡ p = get_or_from_slice_get packages i p p first in
      let b : get_or packages j p ≡ q = get_or_from_slice_get packages j q p second in
      let below : package_cmp (get_or packages i p) (get_or packages j p) ≡ Less = ordered i j p less (slice_get_within packages j q second) in
      not-after (cmp p.name q.name) (version_cmp p.version q.version)
      (subst (λ (x : Package). package_cmp p x ≡ Less) b (subst (λ (x : Package). package_cmp x (get_or packages j p) ≡ Less) a below))

  earlier-below : (i j : ℕ) (p q : Package) (name : List ℕ) → i < j → slice_get packages i ≡ Some p → slice_get packages j ≡ Some q
      → cmp q.name name ≡ Less → cmp p.name name ≡ Less
  earlier-below i j p q name less first second is = elim (names-rise i j p q less first second) [
    | inl rises ↦ nat_list_cmp_total.trans p.name q.name name rises is
    | inr same ↦ nat_list_cmp_total.congr p.name q.name name same ∙ is
  ]

  later-above : (i j : ℕ) (p q : Package) (name : List ℕ) → i < j → slice_get packages i ≡ Some p → slice_get packages j ≡ Some q
      → cmp name p.name ≡ Less → cmp name q.name ≡ Less
  later-above i j p q name less first second is = elim (names-rise i j p q less first second) [
    | inl rises ↦ nat_list_cmp_total.trans name p.name q.name is rises
    | inr same ↦ subst (λ (x : List ℕ). cmp name x ≡ Less) (exact_bytes p.name q.name same) is
  ]

  pub between-up : (name : List ℕ) (low high middle : ℕ) (m : Package) → IsBetween packages name low high → low ≤ middle → middle < high
      → slice_get packages middle ≡ Some m → Less ≡ slice_cmp nat_cmp m.name name → IsBetween packages name (middle + 1) high
  between-up name low high middle m between from to at less = record {
    ordered = omega (arith, to);
    within = between.within;
    below = λ k p h is. elim (cases_lt k middle) [
      | inl before ↦ earlier-below k middle p m name before is at (sym less)
      | inr here ↦
          let same : middle ≡ k = omega (arith, h, here) in
          subst (λ (x : Package). cmp x.name name ≡ Less)
          (same-at packages k m p (ap (slice_get packages) (sym same) ∙ at) is) (sym less)
    ];
    above = between.above;
  }

  pub between-down : (name : List ℕ) (low high middle : ℕ) (m : Package) → IsBetween packages name low high → low ≤ middle → middle < high
      → slice_get packages middle ≡ Some m → Greater ≡ slice_cmp nat_cmp m.name name → IsBetween packages name low middle
  between-down name low high middle m between from to at greater =
      let less : cmp name m.name ≡ Less = greater-turned m.name name (sym greater) in record {
        ordered = from;
        within = omega (arith, between.within, to);
        below = between.below;
        above = λ k p h is. elim (cases_lt middle k) [
          | inl behind ↦ later-above middle k m p name behind at is less
          | inr here ↦
              let same : middle ≡ k = omega (arith, h, here) in
              subst (λ (x : Package). cmp name x.name ≡ Less)
              (same-at packages k m p (ap (slice_get packages) (sym same) ∙ at) is) less
        ];
      }

-- where nothing is left between the two, no package has the name
pub between-none : (packages : List Package) (name : List ℕ) (low high : ℕ) → high ≤ low → IsBetween packages name low high → ¬ IsHeld packages name
between-none packages name low high met between held =
    let at = found-at (λ (n : Package). n.name ≡ name) packages held in
    let tied : cmp at.element.name name ≡ Equal = subst (λ (x : List ℕ). cmp at.element.name x ≡ Equal) at.holds
    (tied_itself nat_list_cmp_total at.element.name) in
    let back : cmp name at.element.name ≡ Equal = subst (λ (x : List ℕ). cmp x at.element.name ≡ Equal) at.holds
    (tied_itself nat_list_cmp_total at.element.name) in
    elim (cases_lt at.place low) [
      | inl before ↦ let less = between.below at.place at.element before at.is in cc
      | inr behind ↦ let less = between.above at.place at.element (omega (arith, met, behind)) at.is in cc
    ]

pub middle-named : (packages : List Package) (name : List ℕ) (middle : ℕ) (m : Package) → slice_get packages middle ≡ Some m
    → Equal ≡ slice_cmp nat_cmp m.name name → IsPackageAnd packages middle (λ p. p.name ≡ name)
middle-named packages name middle m at same =
    at-has (λ (p : Package). p.name ≡ name) packages middle m at (exact_bytes m.name name (sym same))
