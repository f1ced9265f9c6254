-- Places in lists, and searches in lists that strictly rise in a total order.
use Rattle.std.proofs.Common.{◌≡◌, ℕ, zero, suc, ◌+◌, ◌<◌, List, [], ◌∷◌, length, get_or, ap, ◌∙◌, subst, arith, inl, inr, Ordering, is_lt, Less, Equal}
use Rattle.std.proofs.Common.{slice_get, Some, None, Option}
use Rattle.std.specs.Prelude.{Ok, Err, Result, IsSomeAnd, AllPairs, ◌↔◌}
use Rattle.std.specs.Cmp.{IsTotalOrder}
use Rattle.std.proofs.lemmas.Bool.{cases_lt}
use Rattle.std.specs.List.Sorted.{IsSortedBy, IsBinarySearchResult, IsSearchInRange}
use Rattle.std.specs.Ordering.{ordering_reverse}
use Rattle.std.specs.Result.{result_ok}
use Rattle.std.proofs.lemmas.Cmp.{tied_back}
use Rattle.std.proofs.lemmas.List.Sorted.{searchable_from_sorted}
use Rattle.dist_base.specs.ListLaws.{some-element}

-- what stands at a place, with any default
pub record StandsAt {X : Type 0} (P : X → Type 0) (xs : List X) (k : ℕ) (d : X) : Type 0 where
  pub within : k < length xs
  pub holds : P (get_or xs k d)

pub stands-at : {X : Type 0} (P : X → Type 0) (xs : List X) (k : ℕ) (d : X) → IsSomeAnd (slice_get xs k) P → StandsAt P xs k d
stands-at P [] k d here = absurd here
stands-at P (x ∷ xs) zero d here = record { within = omega arith; holds = here }
stands-at P (x ∷ xs) (suc k) d here = let later = stands-at P xs k d here in record { within = omega (arith, later.within); holds = later.holds }

pub at-stands : {X : Type 0} (P : X → Type 0) (xs : List X) (k : ℕ) (d : X) → k < length xs → P (get_or xs k d) → IsSomeAnd (slice_get xs k) P
at-stands P [] k d short holds = absurd (omega arith)
at-stands P (x ∷ xs) zero d short holds = holds
at-stands P (x ∷ xs) (suc k) d short holds = at-stands P xs k d (omega arith) holds

module _ {X K : Type 0} (R : K → K → Ordering) (o : IsTotalOrder R) (f : X → K) where
  -- each element is below each later one
  abbrev pub Rises : List X → Type 0
  Rises xs = AllPairs (λ a b. R (f a) (f b) ≡ Less) xs

  -- the element is tied with what is sought
  abbrev pub IsTied : K → X → Type 0
  IsTied q x = R (f x) q ≡ Equal

  -- the place is that of an element tied with what is sought, and there is none where there is no place
  abbrev pub Finds : List X → K → Option ℕ → Type 0
  Finds xs q found = (place : ℕ) → (found ≡ Some place) ↔ IsSomeAnd (slice_get xs place) (IsTied q)

  not-below : (a b : X) (q : K) → IsTied q a → IsTied q b → R (f a) (f b) ≡ Less → ⊥
  not-below a b q first second below =
      let swapped : R (f a) (f b) ≡ R q (f b) = o.congr (f a) q (f b) first in
      let tied : R q (f b) ≡ Equal = tied_back o (f b) q second in cc

  pub one-place : (xs : List X) (i j : ℕ) (q : K) → Rises xs → IsSomeAnd (slice_get xs i) (IsTied q) → IsSomeAnd (slice_get xs j) (IsTied q) → i ≡ j
  one-place xs i j q rising first second =
      let d = some-element (IsTied q) xs i first in
      let a = stands-at (IsTied q) xs i d first in
      let b = stands-at (IsTied q) xs j d second in
      elim (cases_lt i j) [
        | inl h ↦ absurd (not-below _ _ q a.holds b.holds (rising i j d h b.within))
        | inr h ↦ elim (cases_lt j i) [
          | inl g ↦ absurd (not-below _ _ q b.holds a.holds (rising j i d g a.within))
          | inr g ↦ omega arith
        ]
      ]

  pub found-place : (xs : List X) (place : ℕ) (q : K) → Rises xs → IsSomeAnd (slice_get xs place) (IsTied q) → Finds xs q (Some place)
  found-place xs place q rising here =
      let P : ℕ → Type 0 = λ k. IsSomeAnd (slice_get xs k) (IsTied q) in
      λ k. ((λ is. let same : place ≡ k = cc in subst P same here), λ other. ap (λ n. Some n) (one-place xs place k q rising here other))

  pub missing-place : (xs : List X) (q : K) → ((k : ℕ) (d : X) → k < length xs → ¬ IsTied q (get_or xs k d)) → Finds xs q None
  missing-place xs q none place = (
    (λ is. cc),
    λ here.
        let d = some-element (IsTied q) xs place here in
        let at = stands-at (IsTied q) xs place d here in
        absurd (none place d at.within at.holds),
  )

  sorted-by : (xs : List X) → Rises xs → IsSortedBy (λ a b. is_lt (R (f a) (f b))) xs
  sorted-by xs rising k d low short =
      ap is_lt (o.antisymm (f (get_or xs (k + 1) d)) (f (get_or xs k d)) ∙ ap ordering_reverse (rising k (k + 1) d (omega arith) short))

  -- what a binary search answers, as an option
  pub searched-place : (xs : List X) (q : K) (found : Result ℕ ℕ) → Rises xs → IsSearchInRange found (length xs) →
      IsBinarySearchResult (λ x. R (f x) q) xs found → Finds xs q (result_ok found)
  searched-place [] q (Ok place) rising within search_is = absurd (omega arith)
  searched-place (x ∷ xs) q (Ok place) rising within search_is =
      found-place (x ∷ xs) place q rising (at-stands (IsTied q) (x ∷ xs) place x within (search_is x))
  searched-place xs q (Err i) rising within search_is =
      let parts = search_is (searchable_from_sorted o f xs q (sorted-by xs rising)) in
      missing-place xs q (λ k d short tied. elim (cases_lt k i) [
        | inl h ↦ let less = parts.0 k d (omega arith) h in cc
        | inr h ↦ let greater = parts.1 k d h short in cc
      ])
