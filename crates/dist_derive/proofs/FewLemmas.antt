-- Numbers that are all different are few.
use Rattle.std.proofs.Common.{◌≡◌, ◌≢◌, ℕ, ◌-◌, ◌<◌, ◌≤◌, List, length, get_or, map, eqb, sym, subst, ◌∙◌, arith}
use Rattle.std.specs.List.{All, AllPairs}
use Rattle.std.proofs.lemmas.Bool.{eqb-true}
use Rattle.std.proofs.lemmas.Bool.Decides.{Decides-eqb}
use Rattle.std.proofs.lemmas.List.{get_or-map, length-map}
use Rattle.std.proofs.lemmas.List.Folds.{Any-from_list_any}
use Rattle.std.proofs.lemmas.Map.Made.{IsDistinct-from_AllPairs}
use Rattle.std.proofs.lemmas.Map.Steps.{length-le_from_distinct_below}

pub few_below : (xs : List ℕ) (n : ℕ) → AllPairs (λ x y. x ≢ y) xs → All (λ x. x < n) xs → length xs ≤ n
few_below xs n distinct below = length-le_from_distinct_below xs n (IsDistinct-from_AllPairs Decides-eqb xs distinct) (λ q e.
    let found = Any-from_list_any (λ x. eqb q x) xs e in
    let same : q ≡ found.1 = eqb-true q found.1 found.4 in
    subst (λ x. x < n) (found.3 ∙ sym same) (below found.0 found.1 found.2))

pub few_from_one : (xs : List ℕ) (n : ℕ) → AllPairs (λ x y. x ≢ y) xs → All (λ x. (1 ≤ x) × (x ≤ n)) xs → length xs ≤ n
few_from_one xs n distinct within =
    let down : ℕ → ℕ = λ x. x - 1 in
    let long = length-map xs down in
    let at : (k : ℕ) (d : ℕ) → k < length xs → get_or (map down xs) k d ≡ down (get_or xs k 1) = λ k d k_within. get_or-map down xs k 1 d k_within in
    let few = few_below (map down xs) n
    (λ i j d before j_within e.
    let j_in : j < length xs = omega (arith, long) in
    let i_in : i < length xs = omega (arith, long) in
    let low = within i 1 i_in in
    let high = within j 1 j_in in
    let same : down (get_or xs i 1) ≡ down (get_or xs j 1) = sym (at i d i_in) ∙ (e ∙ at j d j_in) in
    distinct i j 1 before j_in (omega (arith, same, low.0, high.0)))
    (λ k d k_within.
    let k_in : k < length xs = omega (arith, long) in
    let r = within k 1 k_in in
    omega (arith, at k d k_in, r.0, r.1)) in
    omega (arith, long, few)
