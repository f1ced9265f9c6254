-- Laws of lists, and of what is among numbers. No public clause cites them; proofs of the crates above do.
use Rattle.std.proofs.Common.{◌≡◌, ◌⊎◌, inl, inr, ℕ, zero, suc, ◌<◌, ◌==◌, ◌||◌, Bool, true, false, List, [], ◌∷◌}
use Rattle.std.proofs.Common.{length, get_or, map, refl, sym, ap, subst, arith}
use Rattle.std.specs.List.{AllPairs, Contains, list_any}
use Rattle.std.proofs.lemmas.Bool.{false≢true, eq-eqb, eqb-true, or_right, or_cases}
use Rattle.std.proofs.lemmas.List.{get_or-map, length-map}
use Rattle.dist_cert.specs.Rising.{is_among}

pub contains-cases : {X : Type 0} (y : X) (xs : List X) (x : X) → Contains (y ∷ xs) x → (y ≡ x) ⊎ Contains xs x
contains-cases y xs x there = at there.0 there.1 there.2
  where
    at : (k : ℕ) → k < length (y ∷ xs) → get_or (y ∷ xs) k x ≡ x → (y ≡ x) ⊎ Contains xs x
    at zero within is = inl is
    at (suc k) within is = inr (k, omega (arith, within), is)

pub contains-later : {X : Type 0} (y : X) (xs : List X) (x : X) → Contains xs x → Contains (y ∷ xs) x
contains-later y xs x there = (suc there.0, omega (arith, there.1), there.2)

pub any-from : (number : ℕ) (numbers : List ℕ) → Contains numbers number → is_among numbers number ≡ true
any-from x [] there = absurd (omega (arith, there.1))
any-from x (y ∷ xs) there = elim (contains-cases y xs x there) [
  | inl same ↦ ap (λ (b : Bool). b || list_any (λ v. x == v) xs) (eq-eqb x y (sym same))
  | inr later ↦ or_right (x == y) (list_any (λ v. x == v) xs) (any-from x xs later)
]

pub from-any : (number : ℕ) (numbers : List ℕ) → is_among numbers number ≡ true → Contains numbers number
from-any x [] holds = absurd (false≢true holds)
from-any x (y ∷ xs) holds = elim (or_cases (x == y) (list_any (λ v. x == v) xs) holds) [
  | inl here ↦ (0, omega arith, sym (eqb-true x y here))
  | inr later ↦ contains-later y xs x (from-any x xs later)
]

pub pairs-map : {X Y : Type 0} (R : Y → Y → Type 0) (f : X → Y) (xs : List X) → AllPairs (λ a b. R (f a) (f b)) xs
    → AllPairs R (map f xs)
pairs-map {X} {Y} R f xs pairs i j d before within = at xs pairs (shorter xs (omega (arith, within, length-map xs f)))
  where
    shorter : (ys : List X) → j < length ys → (x : X) × (j < length ys)
    shorter [] short = absurd (omega (arith, short))
    shorter (y ∷ ys) short = (y, short)

    at : (ys : List X) → AllPairs (λ a b. R (f a) (f b)) ys → (x : X) × (j < length ys)
        → R (get_or (map f ys) i d) (get_or (map f ys) j d)
    at ys all some =
        let early : i < length ys = omega (arith, before, some.1) in
        subst (λ y. R y (get_or (map f ys) j d)) (sym (get_or-map f ys i some.0 d early))
        (subst (λ y. R (f (get_or ys i some.0)) y) (sym (get_or-map f ys j some.0 d some.1))
        (all i j some.0 before some.1))

-- two tests that pass together
pub both-flags : (a b : Bool) → (a ≡ true → b ≡ true) → (b ≡ true → a ≡ true) → a ≡ b
both-flags true b to back = sym (to refl)
both-flags false true to back = back refl
both-flags false false to back = refl
