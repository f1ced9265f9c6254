-- What stands at a place of a list: after a push, after a write, and among the first elements.
use Rattle.std.proofs.Common.{◌≡◌, ◌≢◌, ◌⊎◌, ℕ, zero, suc, ◌+◌, ◌<◌, List, [], ◌∷◌, ◌++◌, length, get_or, set, take, Some, None, Option, refl, sym, ap, subst}
use Rattle.std.proofs.Common.{◌∙◌, arith, inl, inr, slice_get, length-append}
use Rattle.std.specs.Prelude.{Any, Contains, IsSomeAnd}
use Rattle.std.specs.List.Sorted.{IsStrictlyIncreasing}
use Rattle.std.proofs.lemmas.Bool.{cases_lt}
use Rattle.std.proofs.lemmas.List.{get_or_append_left, get_or_push, get_or_default, get_or-set_same, length-set, take_more}
use Rattle.std.proofs.lemmas.List.Elements.{Contains-append_left, Contains-push, Contains-push_cases}
use Rattle.std.proofs.lemmas.Option.{slice_get-get_or, slice_get_within, get_or_from_slice_get}

-- ---- an element that stands somewhere

pub some-of : {X : Type 0} (P : X → Type 0) (o : Option X) → IsSomeAnd o P → (x : X) × (o ≡ Some x) × P x
some-of P None h = absurd h
some-of P (Some x) h = (x, refl, h)

pub some-at : {X : Type 0} (P : X → Type 0) (o : Option X) (x : X) → o ≡ Some x → P x → IsSomeAnd o P
some-at {X} P o x is h = let Here : Option X → Type 0 = λ w. IsSomeAnd w P in subst Here (sym is) h

pub standing : {X : Type 0} (xs : List X) (k : ℕ) → k < length xs → (x : X) × (slice_get xs k ≡ Some x)
standing [] k short = absurd (omega arith)
standing (x ∷ xs) k short = (get_or (x ∷ xs) k x, slice_get-get_or (x ∷ xs) k x short)

pub stands-default : {X : Type 0} (xs : List X) (k : ℕ) (x d : X) → slice_get xs k ≡ Some x → get_or xs k d ≡ x
stands-default xs k x d is = get_or_from_slice_get xs k x d is

pub at-contains : {X : Type 0} (xs : List X) (x : X) → Contains xs x → (k : ℕ) × (slice_get xs k ≡ Some x)
at-contains xs x there = (there.0, slice_get-get_or xs there.0 x there.1 ∙ ap (λ y. Some y) there.2)

-- ---- after a push

pub get-left : {X : Type 0} (xs ys : List X) (k : ℕ) (x : X) → slice_get xs k ≡ Some x → slice_get (xs ++ ys) k ≡ Some x
get-left [] ys k x is = cc
get-left (y ∷ xs) ys zero x is = is
get-left (y ∷ xs) ys (suc k) x is = get-left xs ys k x is

pub get-here : {X : Type 0} (xs : List X) (y : X) (k : ℕ) → k ≡ length xs → slice_get (xs ++ y ∷ []) k ≡ Some y
get-here [] y zero is = refl
get-here [] y (suc k) is = absurd (omega arith)
get-here (x ∷ xs) y zero is = absurd (omega arith)
get-here (x ∷ xs) y (suc k) is = get-here xs y k (omega arith)

pub get-cases : {X : Type 0} (xs : List X) (y : X) (k : ℕ) (x : X) → slice_get (xs ++ y ∷ []) k ≡ Some x → (slice_get xs k ≡ Some x)
    ⊎ ((k ≡ length xs) × (y ≡ x))
get-cases [] y zero x is = inr (refl, cc)
get-cases [] y (suc k) x is = cc
get-cases (z ∷ xs) y zero x is = inl is
get-cases (z ∷ xs) y (suc k) x is = elim (get-cases xs y k x is) [ inl h ↦ inl h | inr h ↦ inr (omega (arith, h.0), h.1) ]

-- ---- after a write

pub get-set_same : {X : Type 0} (xs : List X) (i : ℕ) (y : X) → i < length xs → slice_get (set xs i y) i ≡ Some y
get-set_same xs i y short =
    let within : i < length (set xs i y) = omega (arith, length-set xs i y) in
    slice_get-get_or (set xs i y) i y within ∙ ap (λ z. Some z) (get_or-set_same xs i y y short)

pub get-set_other : {X : Type 0} (xs : List X) (i k : ℕ) (y : X) → k ≢ i → slice_get (set xs i y) k ≡ slice_get xs k
get-set_other [] i k y other = refl
get-set_other (x ∷ xs) zero zero y other = absurd (other refl)
get-set_other (x ∷ xs) zero (suc k) y other = refl
get-set_other (x ∷ xs) (suc i) zero y other = refl
get-set_other (x ∷ xs) (suc i) (suc k) y other = get-set_other xs i k y (λ same. other (ap suc same))

-- ---- numbers that rise

pub increasing-push : (xs : List ℕ) (y : ℕ) → IsStrictlyIncreasing xs → ((k : ℕ) → Contains xs k → k < y) → IsStrictlyIncreasing (xs ++ y ∷ [])
increasing-push xs y rising bound k short =
    let total : length (xs ++ y ∷ []) ≡ length xs + 1 = length-append xs (y ∷ []) in
    elim (cases_lt (k + 1) (length xs)) [
      | inl h ↦
          let left = get_or_append_left xs (y ∷ []) 0 k (omega arith) in
          let right = get_or_append_left xs (y ∷ []) 0 (k + 1) h in
          omega (arith, rising k h)
      | inr h ↦
          let at : length xs ≡ k + 1 = omega arith in
          let left = get_or_append_left xs (y ∷ []) 0 k (omega arith) in
          let right = get_or_push xs y 0 (k + 1) at in
          let here : k < length xs = omega arith in
          let there : Contains xs (get_or xs k 0) = (k, here, get_or_default xs k (get_or xs k 0) 0 here) in
          let most = bound (get_or xs k 0) there in
          omega arith
    ]

pub increasing-one : (y : ℕ) → IsStrictlyIncreasing (y ∷ [])
increasing-one y k short = absurd (omega arith)

-- ---- some of the first elements

pub any-take : {X : Type 0} (P : X → Type 0) (xs : List X) (k : ℕ) (x : X) → slice_get xs k ≡ Some x → Any P (take (k + 1) xs) → Any P (take k xs) ⊎ P x
any-take {X} P xs k x is any =
    let short = slice_get_within xs k x is in
    let here : get_or xs k x ≡ x = get_or_from_slice_get xs k x x is in
    let more : take (k + 1) xs ≡ take k xs ++ x ∷ [] = take_more xs k x short ∙ ap (λ y. take k xs ++ y ∷ []) here in
    let Some_of : List X → Type 0 = λ ys. Any P ys in
    let pushed = subst Some_of more any in
    elim (Contains-push_cases (take k xs) x pushed.1 (pushed.0, pushed.2, pushed.3)) [
      | inl h ↦ inl (h.0, pushed.1, h.1, h.2, pushed.4)
      | inr h ↦ inr (subst P (sym h) pushed.4)
    ]

pub take-any_left : {X : Type 0} (P : X → Type 0) (xs : List X) (k : ℕ) (x : X) → slice_get xs k ≡ Some x → Any P (take k xs) → Any P (take (k + 1) xs)
take-any_left {X} P xs k x is any =
    let short = slice_get_within xs k x is in
    let here : get_or xs k x ≡ x = get_or_from_slice_get xs k x x is in
    let more : take (k + 1) xs ≡ take k xs ++ x ∷ [] = take_more xs k x short ∙ ap (λ y. take k xs ++ y ∷ []) here in
    let Some_of : List X → Type 0 = λ ys. Any P ys in
    let there = Contains-append_left (take k xs) (x ∷ []) any.1 (any.0, any.2, any.3) in
    subst Some_of (sym more) (there.0, any.1, there.1, there.2, any.4)

pub take-any_here : {X : Type 0} (P : X → Type 0) (xs : List X) (k : ℕ) (x : X) → slice_get xs k ≡ Some x → P x → Any P (take (k + 1) xs)
take-any_here {X} P xs k x is holds =
    let short = slice_get_within xs k x is in
    let here : get_or xs k x ≡ x = get_or_from_slice_get xs k x x is in
    let more : take (k + 1) xs ≡ take k xs ++ x ∷ [] = take_more xs k x short ∙ ap (λ y. take k xs ++ y ∷ []) here in
    let Some_of : List X → Type 0 = λ ys. Any P ys in
    let there = Contains-push (take k xs) x in
    subst Some_of (sym more) (there.0, x, there.1, there.2, holds)
