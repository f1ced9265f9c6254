-- Rows that begin alike.
use Rattle.std.proofs.Common.{◌≡◌, inl, inr, ℕ, zero, suc, ◌+◌, ◌-◌, ◌<◌, ◌≤◌, Bool, List, [], ◌∷◌, ◌++◌, length, get_or, slice_index, sym, subst, arith}
use Rattle.std.specs.List.{Contains}
use Rattle.std.proofs.lemmas.Bool.{cases_eq, cases_lt}
use Rattle.std.proofs.lemmas.List.{get_or_append_left, get_or-append_right}
use Rattle.dist_clause.specs.ClauseList.{clause_at}
use Rattle.dist_clause.specs.Formula.{Literal, IsTrueLiteral}
use Rattle.dist_derive.specs.DenialsPrivate.{AreTrueWithin}
use Rattle.dist_derive.specs.RowsPrivate.{AreAlike, AreFrontsOf, RowLists, StandsAt, row_of}

-- ---- one row more

pub rows-more : (clauses rows : List (List Literal)) (row : List Literal) (place : ℕ) → length rows ≡ place
    → ((number : ℕ) (l : Literal) → Contains (clause_at rows number) l → Contains (clause_at clauses number) l)
    → ((l : Literal) → Contains row l → Contains (clause_at clauses (place + 1)) l)
    → (number : ℕ) (l : Literal) → Contains (clause_at (rows ++ row ∷ []) number) l → Contains (clause_at clauses number) l
rows-more clauses rows row place count members last number l there = elim (cases_lt (number - 1) place) [
  | inl before ↦ members number l (subst (λ (r : List Literal). Contains r l)
      (get_or_append_left rows (row ∷ []) [] (number - 1) (omega (arith, count, before))) there)
  | inr behind ↦
      let moved = subst (λ (r : List Literal). Contains r l) (get_or-append_right rows (row ∷ []) place (number - 1) [] count behind) there in
      elim (cases_eq (number - 1) place) [
        | inl same ↦
            let first : number - 1 - place ≡ 0 = omega (arith, same) in
            let other : place + 1 - 1 ≡ number - 1 = omega (arith, same) in
            subst (λ (n : ℕ). Contains (get_or clauses n []) l) other
            (last l (subst (λ (n : ℕ). Contains (get_or (row ∷ []) n []) l) first moved))
        | inr apart ↦
            let past : 1 ≤ number - 1 - place = omega (arith, behind, apart) in
            absurd (none (number - 1 - place) past moved)
      ]
]
  where
    none : (n : ℕ) → 1 ≤ n → ¬ Contains (get_or (row ∷ []) n []) l
    none zero one h = omega (arith, one)
    none (suc n) one h = let low = h.1 in omega (arith, low)

pub fronts-more : (rows : List (List Literal)) (pairs : List (ℕ × ℕ)) (fronts : List ℕ) (front place : ℕ) → length fronts ≡ place
    → AreFrontsOf rows pairs fronts
    → ((k p : ℕ) (l : Literal) → place ≡ k + 1 → p < front → StandsAt (row_of rows pairs k) p l → StandsAt (row_of rows pairs place) p l)
    → AreFrontsOf rows pairs (fronts ++ front ∷ [])
fronts-more rows pairs fronts front place count are last k p l short there = elim (cases_lt (k + 1) place) [
  | inl before ↦ are k p l (subst (λ (n : ℕ). p < n) (get_or_append_left fronts (front ∷ []) 0 (k + 1) (omega (arith, count, before))) short) there
  | inr behind ↦
      let moved = subst (λ (n : ℕ). p < n) (get_or-append_right fronts (front ∷ []) place (k + 1) 0 count behind) short in
      elim (cases_eq (k + 1) place) [
        | inl same ↦
            let first : k + 1 - place ≡ 0 = omega (arith, same) in
            subst (λ (n : ℕ). StandsAt (row_of rows pairs n) p l) (sym same)
            (last k p l (sym same) (subst (λ (n : ℕ). p < get_or (front ∷ []) n 0) first moved) there)
        | inr apart ↦
            let past : 1 ≤ k + 1 - place = omega (arith, behind, apart) in
            absurd (none (k + 1 - place) past moved)
      ]
]
  where
    none : (n : ℕ) → 1 ≤ n → ¬ (p < get_or (front ∷ []) n 0)
    none zero one h = omega (arith, one)
    none (suc n) one h = omega (arith, h)

-- ---- what is passed

-- a literal at a place stands there in all rows up to the first with a shorter front
pub shared-on : (rows : List (List Literal)) (pairs : List (ℕ × ℕ)) (fronts : List ℕ) (place next p : ℕ) (l : Literal)
    → AreFrontsOf rows pairs fronts → StandsAt (row_of rows pairs place) p l
    → ((i : ℕ) → place < i → i < next → p < slice_index fronts i)
    → (steps : ℕ) → place + steps < next → StandsAt (row_of rows pairs (place + steps)) p l
shared-on rows pairs fronts place next p l are here fronts_are zero low =
    let same : place ≡ place + 0 = omega arith in
    subst (λ (n : ℕ). StandsAt (row_of rows pairs n) p l) same here
shared-on rows pairs fronts place next p l are here fronts_are (suc steps) low =
    let before = shared-on rows pairs fronts place next p l are here fronts_are steps (omega (arith, low)) in
    let same : place + steps + 1 ≡ place + suc steps = omega arith in
    subst (λ (n : ℕ). StandsAt (row_of rows pairs n) p l) same
    (are (place + steps) p l (fronts_are (place + steps + 1) (omega arith) (omega (arith, low))) before)

pub passed-true : (value : ℕ → Bool) (clauses : List (List Literal)) (pairs : List (ℕ × ℕ)) (lists : RowLists) (place next p : ℕ) (l : Literal)
    → AreAlike clauses pairs lists → StandsAt (row_of lists.rows pairs place) p l → IsTrueLiteral value l
    → ((i : ℕ) → place < i → i < next → p < slice_index lists.fronts i)
    → AreTrueWithin value clauses pairs place next
passed-true value clauses pairs lists place next p l alike here holds fronts_are k from before within =
    let place_is : place + (k - place) ≡ k = omega (arith, from) in
    let there = subst (λ (n : ℕ). StandsAt (row_of lists.rows pairs n) p l) place_is
    (shared-on lists.rows pairs lists.fronts place next p l alike.fronts here fronts_are (k - place) (omega (arith, from, before))) in
    let found = alike.rows.members (get_or pairs k (0, 0)).1 l (p, there.0, there.1) in
    (found.0, l, found.1, found.2, holds)
