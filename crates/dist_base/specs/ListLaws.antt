-- Laws of lists: places, what holds of some element, and pairs. No public clause cites them; proofs of the crates above
-- do.
use Rattle.std.proofs.Common.{◌≡◌, ◌≢◌, ◌⊎◌, ℕ, zero, suc, ◌<◌, inl, inr, ◌∙◌, List, [], ◌∷◌, length, get_or, Some}
use Rattle.std.proofs.Common.{Option, refl, sym, ap, subst, arith, slice_get}
use Rattle.std.proofs.lemmas.Bool.{cases_lt}
use Rattle.std.proofs.lemmas.List.{get_or_default}
use Rattle.std.proofs.lemmas.Option.{slice_get-get_or, get_or_from_slice_get, slice_get_within}
use Rattle.std.specs.Prelude.{All, AllPairs, Any, Contains, IsSomeAnd}

pub some-element : {X : Type 0} (P : X → Type 0) (xs : List X) (k : ℕ) → IsSomeAnd (slice_get xs k) P → X
some-element P [] k here = absurd here
some-element P (x ∷ xs) zero here = x
some-element P (x ∷ xs) (suc k) here = some-element P xs k here

pub element-is : {X : Type 0} (P : X → Type 0) (xs : List X) (k : ℕ) (here : IsSomeAnd (slice_get xs k) P)
    → slice_get xs k ≡ Some (some-element P xs k here)
unfolding some-element
element-is P [] k here = absurd here
element-is P (x ∷ xs) zero here = refl
element-is P (x ∷ xs) (suc k) here = element-is P xs k here

-- what an element has, by the equation that names it
pub has-at : {X : Type 0} (P : X → Type 0) (xs : List X) (k : ℕ) (x : X) → slice_get xs k ≡ Some x
    → IsSomeAnd (slice_get xs k) P → P x
has-at {X} P xs k x is here = let Q : Option X → Type 0 = λ o. IsSomeAnd o P in subst Q is here

pub at-has : {X : Type 0} (P : X → Type 0) (xs : List X) (k : ℕ) (x : X) → slice_get xs k ≡ Some x → P x
    → IsSomeAnd (slice_get xs k) P
at-has {X} P xs k x is holds = let Q : Option X → Type 0 = λ o. IsSomeAnd o P in subst Q (sym is) holds

pub at-weaker : {X : Type 0} (P Q : X → Type 0) (xs : List X) (k : ℕ) → ((x : X) → P x → Q x)
    → IsSomeAnd (slice_get xs k) P → IsSomeAnd (slice_get xs k) Q
at-weaker P Q xs k more here =
    let x = some-element P xs k here in
    let is = element-is P xs k here in
    at-has Q xs k x is (more x (has-at P xs k x is here))

pub any-head : {X : Type 0} (P : X → Type 0) (x : X) (xs : List X) → P x → Any P (x ∷ xs)
any-head P x xs holds = (0, x, omega arith, refl, holds)

pub any-later : {X : Type 0} (P : X → Type 0) (x : X) (xs : List X) → Any P xs → Any P (x ∷ xs)
any-later P x xs any = (suc any.0, any.1, omega (arith, any.2), any.3, any.4)

-- an element at a place that has a property
pub any-at : {X : Type 0} (P : X → Type 0) (xs : List X) (k : ℕ) (x : X) → slice_get xs k ≡ Some x → P x → Any P xs
any-at P [] k x is holds = cc
any-at {X} P (y ∷ xs) zero x is holds = any-head P y xs (let e : y ≡ x = cc in subst P (sym e) holds)
any-at P (y ∷ xs) (suc k) x is holds = any-later P y xs (any-at P xs k x is holds)

pub any-cases : {X : Type 0} (P : X → Type 0) (x : X) (xs : List X) → Any P (x ∷ xs) → P x ⊎ Any P xs
any-cases P x xs any = at any.0 any.1 any.2 any.3 any.4
  where
    at : (k : ℕ) (y : _) → k < length (x ∷ xs) → get_or (x ∷ xs) k y ≡ y → P y → P x ⊎ Any P xs
    at zero y short is holds = inl (subst P (sym is) holds)
    at (suc k) y short is holds = inr (k, y, omega arith, is, holds)

pub within-from : {X : Type 0} (P : X → Type 0) (xs : List X) (k : ℕ) → IsSomeAnd (slice_get xs k) P → k < length xs
within-from P [] k here = absurd here
within-from P (x ∷ xs) zero here = omega arith
within-from P (x ∷ xs) (suc k) here = omega (arith, within-from P xs k here)

-- the element at a place
pub record ElementAt {X : Type 0} (xs : List X) (k : ℕ) : Type 0 where
  pub element : X
  pub is : slice_get xs k ≡ Some element

pub element-at : {X : Type 0} (xs : List X) (k : ℕ) → k < length xs → ElementAt xs k
element-at [] k short = absurd (omega (arith, short))
element-at (x ∷ xs) zero short = record { element = x; is = refl }
element-at (x ∷ xs) (suc k) short = let rest = element-at xs k (omega (arith, short)) in
    record { element = rest.element; is = rest.is }

-- the place of an element, and what it has
pub record FoundAt {X : Type 0} (P : X → Type 0) (xs : List X) : Type 0 where
  pub place : ℕ
  pub element : X
  pub is : slice_get xs place ≡ Some element
  pub holds : P element

pub found-at : {X : Type 0} (P : X → Type 0) (xs : List X) → Any P xs → FoundAt P xs
found-at {X} P xs any = record {
  place = any.0;
  element = any.1;
  is = slice_get-get_or xs any.0 any.1 any.2 ∙ ap (λ (y : X). Some y) any.3;
  holds = any.4;
}

-- what is known to have a property at a place
pub record HereAt {X : Type 0} (P : X → Type 0) (xs : List X) (k : ℕ) : Type 0 where
  pub element : X
  pub is : slice_get xs k ≡ Some element
  pub holds : P element

pub here-at : {X : Type 0} (P : X → Type 0) (xs : List X) (k : ℕ) → IsSomeAnd (slice_get xs k) P → HereAt P xs k
here-at P xs k here = record {
  element = some-element P xs k here;
  is = element-is P xs k here;
  holds = has-at P xs k (some-element P xs k here) (element-is P xs k here) here;
}

pub contains-at : {X : Type 0} (xs : List X) (k : ℕ) (x : X) → slice_get xs k ≡ Some x → Contains xs x
contains-at xs k x is = (k, slice_get_within xs k x is, get_or_from_slice_get xs k x x is)

pub record PlaceOf {X : Type 0} (xs : List X) (x : X) : Type 0 where
  pub place : ℕ
  pub is : slice_get xs place ≡ Some x

pub place-of : {X : Type 0} (xs : List X) (x : X) → Contains xs x → PlaceOf xs x
place-of {X} xs x there = record {
  place = there.0;
  is = slice_get-get_or xs there.0 x there.1 ∙ ap (λ (y : X). Some y) there.2;
}

pub same-at : {X : Type 0} (xs : List X) (k : ℕ) (x y : X) → slice_get xs k ≡ Some x → slice_get xs k ≡ Some y → x ≡ y
same-at xs k x y first second = cc

pub at-more : {X : Type 0} (P Q : X → Type 0) → ((x : X) → P x → Q x) → (xs : List X) (k : ℕ)
    → IsSomeAnd (slice_get xs k) P → IsSomeAnd (slice_get xs k) Q
at-more P Q more [] k here = absurd here
at-more P Q more (x ∷ xs) zero here = more x here
at-more P Q more (x ∷ xs) (suc k) here = at-more P Q more xs k here

pub any-more : {X : Type 0} (P Q : X → Type 0) → ((x : X) → P x → Q x) → (xs : List X) → Any P xs → Any Q xs
any-more P Q more xs any = (any.0, any.1, any.2, any.3, more any.1 any.4)

pub any-contained : {X : Type 0} (P : X → Type 0) (xs : List X) (x : X) → Contains xs x → P x → Any P xs
any-contained P xs x there holds = (there.0, x, there.1, there.2, holds)

pub any-there : {X : Type 0} (P : X → Type 0) (xs : List X) (any : Any P xs) → Contains xs any.1
any-there P xs any = (any.0, any.2, any.3)

pub all-contained : {X : Type 0} (P : X → Type 0) (xs : List X) → ((x : X) → Contains xs x → P x) → All P xs
all-contained P xs each k d short = each (get_or xs k d) (k, short, get_or_default xs k (get_or xs k d) d short)

abbrev pub IsSymmetric : {X : Type 0} → (X → X → Type 0) → Type 0
IsSymmetric {X} R = (x y : X) → R x y → R y x

-- two different elements of a list whose pairs are related both ways
pub pair-from : {X : Type 0} (R : X → X → Type 0) → IsSymmetric R → (xs : List X) (x y : X) → AllPairs R xs
    → Contains xs x → Contains xs y → x ≢ y → R x y
pair-from {X} R symmetric xs x y pairs first second apart =
    elim (cases_lt first.0 second.0) [
      | inl less ↦
          let h : R (get_or xs first.0 y) (get_or xs second.0 y) = pairs first.0 second.0 y less second.1 in
          let a : get_or xs first.0 y ≡ x = get_or_default xs first.0 y x first.1 ∙ first.2 in
          subst (λ z. R x z) second.2 (subst (λ z. R z (get_or xs second.0 y)) a h)
      | inr more ↦ elim (cases_lt second.0 first.0) [
        | inl less ↦
            let h : R (get_or xs second.0 x) (get_or xs first.0 x) = pairs second.0 first.0 x less first.1 in
            let b : get_or xs second.0 x ≡ y = get_or_default xs second.0 x y second.1 ∙ second.2 in
            symmetric y x (subst (λ z. R y z) first.2 (subst (λ z. R z (get_or xs first.0 x)) b h))
        | inr also ↦
            let same : first.0 ≡ second.0 = omega arith in
            let b : get_or xs second.0 x ≡ y = get_or_default xs second.0 x y second.1 ∙ second.2 in
            absurd (apart (sym first.2 ∙ ap (λ (n : ℕ). get_or xs n x) same ∙ b))
      ]
    ]

-- ---- pairs

pub pairs-head : {X : Type 0} (R : X → X → Type 0) (x : X) (xs : List X) → AllPairs R (x ∷ xs) → (y : X) → Contains xs y
    → R x y
pairs-head R x xs pairs y there = subst (λ z. R x z) there.2
    (pairs 0 (suc there.0) y (omega arith) (omega (arith, there.1)))

pub pairs-tail : {X : Type 0} (R : X → X → Type 0) (x : X) (xs : List X) → AllPairs R (x ∷ xs) → AllPairs R xs
pairs-tail R x xs pairs i j d less short = pairs (suc i) (suc j) d (omega (arith, less)) (omega (arith, short))
