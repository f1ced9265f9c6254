-- Laws of lists that are put together of parts, one after another: what is in them, and how their elements are related.
-- No public clause cites them; proofs do, those of the crates above too.
use Rattle.std.proofs.Common.{◌≡◌, ◌⊎◌, ℕ, zero, suc, ◌<◌, List, [], ◌∷◌, ◌++◌, length, get_or, map, refl, sym, ap}
use Rattle.std.proofs.Common.{subst, zero-add, ◌∙◌, inl, inr, arith}
use Rattle.std.specs.Prelude.{AllPairs, Contains}
use Rattle.std.specs.List.{flat_map}
use Rattle.std.specs.Option.{option_map}
use Rattle.std.proofs.lemmas.List.{get_or_default}
use Rattle.std.proofs.lemmas.List.Elements.{Contains-append_cases, Contains-append_left, Contains-append_right}
use Rattle.std.proofs.lemmas.List.Elements.{Contains-get_or}
use Rattle.std.proofs.lemmas.List.FromFn.{get_or-range_with_len, length-range_with_len}
use Rattle.std.proofs.lemmas.Option.{slice_get-map}
use Rattle.dist_base.specs.ListLaws.{contains-at, pairs-head, pairs-tail, place-of}
use Rattle.dist_space.specs.NumberingPrivate.{below}

-- ---- what is in them

pub record ComesFrom {X Y : Type 0} (xs : List X) (P : X → Type 0) (y : Y) : Type 0 where
  pub source : X
  pub there : Contains xs source
  pub gives : P source

pub contains-cons : {X : Type 0} (x y : X) (xs : List X) → Contains (x ∷ xs) y → (x ≡ y) ⊎ Contains xs y
contains-cons x y xs (zero, short, is) = inl is
contains-cons x y xs (suc k, short, is) = inr (k, omega (arith, short), is)

pub contains-first : {X : Type 0} (x : X) (xs : List X) → Contains (x ∷ xs) x
contains-first x xs = (0, omega arith, refl)

pub contains-later : {X : Type 0} (x y : X) (xs : List X) → Contains xs y → Contains (x ∷ xs) y
contains-later x y xs there = (suc there.0, omega (arith, there.1), there.2)

pub in-flat : {X Y : Type 0} (f : X → List Y) (xs : List X) (y : Y) → Contains (flat_map f xs) y
    → ComesFrom xs (λ x. Contains (f x) y) y
in-flat f [] y there = absurd (omega (arith, there.1))
in-flat f (x ∷ xs) y there = elim (Contains-append_cases (f x) (flat_map f xs) y there) [
  | inl here ↦ record { source = x; there = contains-first x xs; gives = here }
  | inr later ↦ let rest = in-flat f xs y later in
      record { source = rest.source; there = contains-later x rest.source xs rest.there; gives = rest.gives }
]

pub flat-in : {X Y : Type 0} (f : X → List Y) (xs : List X) (x : X) (y : Y) → Contains xs x → Contains (f x) y
    → Contains (flat_map f xs) y
flat-in f [] x y there inside = absurd (omega (arith, there.1))
flat-in f (z ∷ xs) x y there inside = elim (contains-cons z x xs there) [
  | inl same ↦ Contains-append_left (f z) (flat_map f xs) y (subst (λ w. Contains (f w) y) (sym same) inside)
  | inr later ↦ Contains-append_right (f z) (flat_map f xs) y (flat-in f xs x y later inside)
]

pub in-map : {X Y : Type 0} (f : X → Y) (xs : List X) (y : Y) → Contains (map f xs) y → ComesFrom xs (λ x. f x ≡ y) y
in-map f [] y there = absurd (omega (arith, there.1))
in-map f (x ∷ xs) y there = elim (contains-cons (f x) y (map f xs) there) [
  | inl same ↦ record { source = x; there = contains-first x xs; gives = same }
  | inr later ↦ let rest = in-map f xs y later in
      record { source = rest.source; there = contains-later x rest.source xs rest.there; gives = rest.gives }
]

pub map-in : {X Y : Type 0} (f : X → Y) (xs : List X) (x : X) → Contains xs x → Contains (map f xs) (f x)
map-in f xs x there =
    let at = place-of xs x there in
    contains-at (map f xs) at.place (f x) (slice_get-map f xs at.place ∙ ap (option_map f) at.is)

pub in-below : (n k : ℕ) → Contains (below n) k → k < n
in-below n k there =
    let inside : there.0 < n = omega (arith, there.1, length-range_with_len 0 n) in
    omega (arith, inside, sym (get_or-range_with_len 0 n there.0 k inside) ∙ there.2)

pub below-in : (n k : ℕ) → k < n → Contains (below n) k
below-in n k short = (
  k,
  omega (arith, short, length-range_with_len 0 n),
  get_or-range_with_len 0 n k k short
      ∙ zero-add k,
)

-- ---- how they are related

pub pairs-none : {X : Type 0} (R : X → X → Type 0) → AllPairs R []
pairs-none R i j d less short = absurd (omega (arith, short))

pub pairs-cons : {X : Type 0} (R : X → X → Type 0) (x : X) (xs : List X) → ((y : X) → Contains xs y → R x y)
    → AllPairs R xs → AllPairs R (x ∷ xs)
pairs-cons R x xs each pairs = at
  where
    at : (i j : ℕ) (d : _) → i < j → j < length (x ∷ xs) → R (get_or (x ∷ xs) i d) (get_or (x ∷ xs) j d)
    at zero zero d less short = absurd (omega (arith, less))
    at zero (suc j) d less short = each (get_or xs j d)
        (j, omega (arith, short), get_or_default xs j (get_or xs j d) d (omega (arith, short)))
    at (suc i) zero d less short = absurd (omega (arith, less))
    at (suc i) (suc j) d less short = pairs i j d (omega (arith, less)) (omega (arith, short))

pub pairs-append : {X : Type 0} (R : X → X → Type 0) (xs ys : List X) → AllPairs R xs → AllPairs R ys
    → ((x y : X) → Contains xs x → Contains ys y → R x y) → AllPairs R (xs ++ ys)
pairs-append R [] ys first second cross = second
pairs-append R (x ∷ xs) ys first second cross =
    pairs-cons R x (xs ++ ys)
    (λ y there. elim (Contains-append_cases xs ys y there) [
      | inl here ↦ pairs-head R x xs first y here
      | inr later ↦ cross x y (contains-first x xs) later
    ])
    (pairs-append R xs ys (pairs-tail R x xs first) second (λ z y here. cross z y (contains-later x z xs here)))

-- parts of which each is in order, and of which an earlier one stands before a later one
abbrev pub StandApart : {X Y : Type 0} → (Y → Y → Type 0) → (X → List Y) → X → X → Type 0
StandApart {X} {Y} R f a b = (p q : Y) → Contains (f a) p → Contains (f b) q → R p q

pub pairs-flat : {X Y : Type 0} (R : Y → Y → Type 0) (f : X → List Y) (xs : List X)
    → ((x : X) → Contains xs x → AllPairs R (f x)) → AllPairs (StandApart R f) xs → AllPairs R (flat_map f xs)
pairs-flat R f [] each apart = pairs-none R
pairs-flat R f (x ∷ xs) each apart =
    pairs-append R (f x) (flat_map f xs) (each x (contains-first x xs))
    (pairs-flat R f xs (λ z there. each z (contains-later x z xs there)) (pairs-tail (StandApart R f) x xs apart))
    (λ p q here there. let from = in-flat f xs q there in
    pairs-head (StandApart R f) x xs apart from.source from.there p q here from.gives)

pub pairs-map : {X Y : Type 0} (R : Y → Y → Type 0) (f : X → Y) (xs : List X) → AllPairs (λ a b. R (f a) (f b)) xs
    → AllPairs R (map f xs)
pairs-map R f [] pairs = pairs-none R
pairs-map R f (x ∷ xs) pairs =
    pairs-cons R (f x) (map f xs)
    (λ y there. let from = in-map f xs y there in
    subst (λ z. R (f x) z) from.gives (pairs-head (λ a b. R (f a) (f b)) x xs pairs from.source from.there))
    (pairs-map R f xs (pairs-tail (λ a b. R (f a) (f b)) x xs pairs))

pub pairs-below : (R : ℕ → ℕ → Type 0) (n : ℕ) → ((i j : ℕ) → i < j → R i j) → AllPairs R (below n)
pairs-below R n each i j d less short =
    let inside : j < n = omega (arith, short, length-range_with_len 0 n) in
    let first = get_or-range_with_len 0 n i d (omega (arith, less, inside)) ∙ zero-add i in
    let second = get_or-range_with_len 0 n j d inside ∙ zero-add j in
    subst (λ x. R x (get_or (below n) j d)) (sym first) (subst (λ x. R i x) (sym second) (each i j less))

-- related otherwise
pub pairs-more : {X : Type 0} (R S : X → X → Type 0) (xs : List X)
    → ((x y : X) → Contains xs x → Contains xs y → R x y → S x y) → AllPairs R xs → AllPairs S xs
pairs-more R S xs more pairs i j d less short =
    more (get_or xs i d) (get_or xs j d) (Contains-get_or xs i d (omega (arith, less, short)))
    (Contains-get_or xs j d short) (pairs i j d less short)
