-- Different numbers in a range are few, and different elements of a list are no more than it has.
use Rattle.std.proofs.Common.{◌≡◌, ◌≢◌, ℕ, zero, suc, ◌-◌, ◌+◌, ◌<◌, ◌≤◌, List, [], ◌∷◌, length, get_or, map, eqb, refl, ap, sym, subst, ◌∙◌, arith}
use Rattle.std.specs.List.{All, AllPairs, Contains}
use Rattle.std.proofs.lemmas.Bool.{eqb-true}
use Rattle.std.proofs.lemmas.Bool.Decides.{Decides-eqb}
use Rattle.std.proofs.lemmas.List.{get_or-map, get_or_default, length-map}
use Rattle.std.proofs.lemmas.List.Elements.{All-nil, All-cons, All-head, All-tail}
use Rattle.std.proofs.lemmas.List.Folds.{Any-from_list_any}
use Rattle.std.proofs.lemmas.Map.Made.{IsDistinct-from_AllPairs}
use Rattle.std.proofs.lemmas.Map.Steps.{length-le_from_distinct_below}

few-below : (xs : List ℕ) (n : ℕ) → AllPairs (λ x y. x ≢ y) xs → All (λ x. x < n) xs → length xs ≤ n
few-below xs n distinct below = length-le_from_distinct_below xs n (IsDistinct-from_AllPairs Decides-eqb xs distinct) (λ q e.
    let found = Any-from_list_any (λ x. eqb q x) xs e in
    let same : q ≡ found.1 = eqb-true q found.1 found.4 in
    subst (λ x. x < n) (found.3 ∙ sym same) (below found.0 found.1 found.2))

-- at most n different numbers above `low` are at most `low + n`
pub few-within : (xs : List ℕ) (low n : ℕ) → AllPairs (λ x y. x ≢ y) xs → All (λ x. (low < x) × (x ≤ low + n)) xs → length xs ≤ n
few-within xs low n distinct within =
    let down : ℕ → ℕ = λ x. x - (low + 1) in
    let long = length-map xs down in
    let at : (k : ℕ) (d : ℕ) → k < length xs → get_or (map down xs) k d ≡ down (get_or xs k (low + 1)) =
    λ k d inside. get_or-map down xs k (low + 1) d inside in
    let few = few-below (map down xs) n
    (λ i j d before inside e.
    let j_in : j < length xs = omega (arith, long) in
    let i_in : i < length xs = omega (arith, long) in
    let i_low = within i (low + 1) i_in in
    let j_low = within j (low + 1) j_in in
    let same : down (get_or xs i (low + 1)) ≡ down (get_or xs j (low + 1)) = sym (at i d i_in) ∙ (e ∙ at j d j_in) in
    distinct i j (low + 1) before j_in (omega (arith, same, i_low.0, j_low.0)))
    (λ k d inside.
    let k_in : k < length xs = omega (arith, long) in
    let r = within k (low + 1) k_in in
    omega (arith, at k d k_in, r.0, r.1)) in
    omega (arith, long, few)

-- different numbers from 1 to n are at most n
pub few-upto : (xs : List ℕ) (n : ℕ) → AllPairs (λ x y. x ≢ y) xs → All (λ x. 1 ≤ x) xs → All (λ x. x ≤ n) xs → length xs ≤ n
few-upto xs n distinct from upto = few-within xs 0 n distinct (λ k d inside.
    let low = from k d inside in
    let high = upto k d inside in
    (omega (arith, low), omega (arith, high)))

-- ---- elements of a list

-- the places at which elements stand in a list of options
record ArePlaced {X : Type 0} (xs options : List X) : Type 0 where
  places : List ℕ
  beside : length places ≡ length xs
  within : All (λ n. n < length options) places
  are : (k e : ℕ) (d : X) → k < length xs → get_or options (get_or places k e) d ≡ get_or xs k d

one-more : {X : Type 0} (x : X) (xs options : List X) (there : Contains options x) (placed : ArePlaced xs options) (k e : ℕ) (d : X) → k < length (x ∷ xs)
    → get_or options (get_or (there.0 ∷ placed.places) k e) d ≡ get_or (x ∷ xs) k d
one-more x xs options there placed zero e d short = get_or_default options there.0 d x there.1 ∙ there.2
one-more x xs options there placed (suc k) e d short = placed.are k e d (omega (arith, short))

are-placed : {X : Type 0} (xs options : List X) → All (Contains options) xs → ArePlaced xs options
are-placed [] options all = record {
  places = [];
  beside = refl;
  within = All-nil (λ n. n < length options);
  are = λ k e d short. absurd (omega (arith, short));
}
are-placed (x ∷ xs) options all =
    let there = All-head (Contains options) x xs all in
    let placed = are-placed xs options (All-tail (Contains options) x xs all) in
    record {
      places = there.0 ∷ placed.places;
      beside = omega (arith, placed.beside);
      within = All-cons (λ n. n < length options) there.0 placed.places there.1 placed.within;
      are = one-more x xs options there placed;
    }

-- different elements of a list are at most as many as it has
pub few-of : {X : Type 0} (xs options : List X) → AllPairs (λ x y. x ≢ y) xs → All (Contains options) xs → length xs ≤ length options
few-of [] options apart all = omega arith
few-of (x ∷ xs) options apart all =
    let placed = are-placed (x ∷ xs) options all in
    let few = few-below placed.places (length options)
    (λ i j e before inside same.
    let j_in : j < length (x ∷ xs) = omega (arith, placed.beside, inside) in
    let i_in : i < length (x ∷ xs) = omega (arith, before, j_in) in
    apart i j x before j_in (sym (placed.are i e x i_in) ∙ ap (λ (n : ℕ). get_or options n x) same ∙ placed.are j e x j_in))
    placed.within in
    omega (arith, few, placed.beside)
