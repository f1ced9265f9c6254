-- A binary search for a name among names in order.
use Rattle.std.proofs.Common.{◌≡◌, ℕ, ◌+◌, ◌<◌, ◌≤◌, List, [], length, get_or, nat_cmp, Ordering, Less, Equal, Greater, sym, ap, ◌∙◌, subst, arith, inl, inr}
use Rattle.std.proofs.Common.{slice_get, Some}
use Rattle.std.specs.Prelude.{Contains}
use Rattle.std.specs.Cmp.Lexicographic.{slice_cmp}
use Rattle.std.specs.List.Sorted.{IsStrictlySortedBy}
use Rattle.std.specs.Ordering.{ordering_reverse}
use Rattle.std.proofs.lemmas.Bool.{cases_lt}
use Rattle.std.proofs.lemmas.Cmp.{nat_list_cmp_total, tied_itself}
use Rattle.std.proofs.lemmas.List.{get_or_default}
use Rattle.std.proofs.lemmas.Map.Keys.{Less-from_sorted}
use Rattle.std.proofs.lemmas.Option.{slice_get-get_or}
use Rattle.dist_repo.proofs.HeldLemmas.{same_names}

abbrev cmp : List ℕ → List ℕ → Ordering
cmp = slice_cmp nat_cmp

-- names before `low` are below the name, and those from `high` on above it
pub record IsBetween (names : List (List ℕ)) (name : List ℕ) (low high : ℕ) : Type 0 where
  pub ordered : low ≤ high
  pub within : high ≤ length names
  pub below : (k : ℕ) (d : List ℕ) → k < low → slice_cmp nat_cmp (get_or names k d) name ≡ Less
  pub above : (k : ℕ) (d : List ℕ) → high ≤ k → k < length names → slice_cmp nat_cmp (get_or names k d) name ≡ Greater

pub between-all : (names : List (List ℕ)) (name : List ℕ) → IsBetween names name 0 (length names)
between-all names name = record {
  ordered = omega arith;
  within = omega arith;
  below = λ k d h. absurd (omega arith);
  above = λ k d h g. absurd (omega arith);
}

above-less : (a b name : List ℕ) → cmp a b ≡ Less → cmp b name ≡ Less → cmp a name ≡ Less
above-less a b name first second = nat_list_cmp_total.trans a b name first second

greater-turned : (a b : List ℕ) → cmp a b ≡ Greater → cmp b a ≡ Less
greater-turned a b is = nat_list_cmp_total.antisymm b a ∙ ap ordering_reverse is

less-turned : (a b : List ℕ) → cmp a b ≡ Less → cmp b a ≡ Greater
less-turned a b is = nat_list_cmp_total.antisymm b a ∙ ap ordering_reverse is

pub between-up : (names : List (List ℕ)) (name : List ℕ) (low high middle : ℕ) → IsStrictlySortedBy (slice_cmp nat_cmp) names → IsBetween names name low high →
    low ≤ middle → middle < high → ((d : List ℕ) → cmp (get_or names middle d) name ≡ Less) → IsBetween names name (middle + 1) high
between-up names name low high middle sorted between from to less = record {
  ordered = omega arith;
  within = between.within;
  below = λ k d h. elim (cases_lt k middle) [
    | inl g ↦ let short : middle < length names = omega (arith, between.within) in
        nat_list_cmp_total.trans (get_or names k d) (get_or names middle d) name (Less-from_sorted cmp names k middle d sorted g short) (less d)
    | inr g ↦ let same : middle ≡ k = omega arith in
        let P : ℕ → Type 0 = λ n. cmp (get_or names n d) name ≡ Less in subst P same (less d)
  ];
  above = between.above;
}

pub between-down : (names : List (List ℕ)) (name : List ℕ) (low high middle : ℕ) → IsStrictlySortedBy (slice_cmp nat_cmp) names → IsBetween names name low high
    →
    low ≤ middle → middle < high → ((d : List ℕ) → cmp (get_or names middle d) name ≡ Greater) → IsBetween names name low middle
between-down names name low high middle sorted between from to greater = record {
  ordered = from;
  within = omega (arith, between.within);
  below = between.below;
  above = λ k d h short. elim (cases_lt middle k) [
    | inl g ↦ less-turned name (get_or names k d)
        (nat_list_cmp_total.trans name (get_or names middle d) (get_or names k d) (greater-turned (get_or names middle d) name (greater d))
        (Less-from_sorted cmp names middle k d sorted g short))
    | inr g ↦ let same : middle ≡ k = omega arith in
        let P : ℕ → Type 0 = λ n. cmp (get_or names n d) name ≡ Greater in subst P same (greater d)
  ];
}

-- where nothing is left between the two, the name is not there
pub between-none : (names : List (List ℕ)) (name : List ℕ) (low high : ℕ) → high ≤ low → IsBetween names name low high → ¬ Contains names name
between-none names name low high met between there =
    let k = there.0 in
    let Tied : List ℕ → Type 0 = λ x. cmp x name ≡ Equal in
    let tied : cmp (get_or names k name) name ≡ Equal = subst Tied (sym there.2) (tied_itself nat_list_cmp_total name) in
    elim (cases_lt k low) [
      | inl h ↦ let less = between.below k name h in cc
      | inr h ↦ let greater = between.above k name (omega arith) there.1 in cc
    ]

-- ---- a turn of the search, at the name x in the middle

in-middle : (names : List (List ℕ)) (name x : List ℕ) (middle : ℕ) (o : Ordering) → middle < length names → x ≡ get_or names middle []
    → o ≡ slice_cmp nat_cmp x name →
    (d : List ℕ) → cmp (get_or names middle d) name ≡ o
in-middle names name x middle o short is order d = ap (λ y. slice_cmp nat_cmp y name) (get_or_default names middle d [] short ∙ sym is) ∙ sym order

pub turn-up : (names : List (List ℕ)) (name x : List ℕ) (low high middle : ℕ) → IsStrictlySortedBy (slice_cmp nat_cmp) names → IsBetween names name low high →
    low ≤ middle → middle < high → x ≡ get_or names middle [] → Less ≡ slice_cmp nat_cmp x name → IsBetween names name (middle + 1) high
turn-up names name x low high middle sorted between from to is order =
    between-up names name low high middle sorted between from to (in-middle names name x middle Less (omega (arith, between.within)) is order)

pub turn-down : (names : List (List ℕ)) (name x : List ℕ) (low high middle : ℕ) → IsStrictlySortedBy (slice_cmp nat_cmp) names → IsBetween names name low high →
    low ≤ middle → middle < high → x ≡ get_or names middle [] → Greater ≡ slice_cmp nat_cmp x name → IsBetween names name low middle
turn-down names name x low high middle sorted between from to is order =
    between-down names name low high middle sorted between from to (in-middle names name x middle Greater (omega (arith, between.within)) is order)

pub turn-found : (names : List (List ℕ)) (name x : List ℕ) (middle : ℕ) → middle < length names → x ≡ get_or names middle [] → Equal ≡ slice_cmp nat_cmp x name
    →
    slice_get names middle ≡ Some name
turn-found names name x middle short is order =
    slice_get-get_or names middle [] short ∙ ap (λ (y : List ℕ). Some y) (sym is ∙ same_names x name (sym order))
