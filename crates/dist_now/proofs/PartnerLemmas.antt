-- The pairs with one first number, which stand together.
use Rattle.std.proofs.Common.{◌≡◌, ◌≢◌, ◌⊎◌, ℕ, ◌+◌, ◌<◌, ◌≤◌, List, [], ◌∷◌, ◌++◌, length, get_or, refl, ap, ◌∙◌, arith, inl, inr}
use Rattle.std.specs.Prelude.{Contains}
use Rattle.std.specs.List.Sorted.{IsNonDecreasingBy}
use Rattle.std.proofs.lemmas.Bool.{cases_lt}
use Rattle.std.proofs.lemmas.List.{get_or_default}
use Rattle.dist_now.specs.GatheringPrivate.{Adds, AreSplitAt}
use Rattle.dist_now.proofs.AddsLemmas.{UpTo, AddsUpTo, adds-none, adds-one, adds-same}

-- the second number of the pair at a place, from a first place on
abbrev pub IsPartnerAt : (pairs : List (ℕ × ℕ)) (start : ℕ) → ℕ → ℕ → Type 0
IsPartnerAt pairs start i k = (start ≤ i) × (i < length pairs) × ((get_or pairs i (0, 0)).1 ≡ k)

-- the pairs from one place to another have the first number
pub record ArePassed (pairs : List (ℕ × ℕ)) (number start place : ℕ) : Type 0 where
  pub from : start ≤ place
  pub have : (i : ℕ) → start ≤ i → i < place → i < length pairs → (get_or pairs i (0, 0)).0 ≡ number

pub passed-none : (pairs : List (ℕ × ℕ)) (number start : ℕ) → ArePassed pairs number start start
passed-none pairs number start = record { from = omega arith; have = λ i low high short. absurd (omega arith) }

pub passed-more : (pairs : List (ℕ × ℕ)) (number start place : ℕ) → ArePassed pairs number start place → (get_or pairs place (0, 0)).0 ≡ number
    → ArePassed pairs number start (place + 1)
passed-more pairs number start place before is = record {
  from = let h = before.from in omega arith;
  have = λ i low high short. elim (cases_lt i place) [
    | inl less ↦ before.have i low less short
    | inr most ↦ let same : i ≡ place = omega arith in ap (λ (n : ℕ). (get_or pairs n (0, 0)).0) same ∙ is
  ];
}

pub partner-more : (pairs : List (ℕ × ℕ)) (number start place : ℕ) (numbers : List ℕ) → ArePassed pairs number start place → place < length pairs
    → Adds numbers (numbers ++ (get_or pairs place (0, 0)).1 ∷ []) (IsPartnerAt pairs start place)
partner-more pairs number start place numbers before short =
    adds-one numbers (get_or pairs place (0, 0)).1 (IsPartnerAt pairs start place) (before.from, short, refl) (λ x at. at.2)

pub partners-none : (pairs : List (ℕ × ℕ)) (start : ℕ) (numbers : List ℕ) → AddsUpTo numbers numbers (IsPartnerAt pairs start) start
partners-none pairs start numbers = adds-none numbers (IsPartnerAt pairs start) start (λ i x short at. let low : start ≤ i = at.0 in omega arith)

-- a place at which the pairs have ended, or where a pair has another first number
abbrev pub IsEnd : (pairs : List (ℕ × ℕ)) (number place : ℕ) → Type 0
IsEnd pairs number place = (length pairs ≤ place) ⊎ ((place < length pairs) × ((get_or pairs place (0, 0)).0 ≢ number))

first-at : (pairs : List (ℕ × ℕ)) (i : ℕ) (d : ℕ × ℕ) → i < length pairs → (get_or pairs i d).0 ≡ (get_or pairs i (0, 0)).0
first-at pairs i d short = ap (λ (x : ℕ × ℕ). x.0) (get_or_default pairs i d (0, 0) short)

-- from the end on the first numbers are greater
greater-from : (pairs : List (ℕ × ℕ)) (number start place : ℕ) → IsNonDecreasingBy (λ pair. pair.0) pairs → AreSplitAt pairs number start
    → ArePassed pairs number start place → IsEnd pairs number place
    → (i : ℕ) → place ≤ i → i < length pairs → number < (get_or pairs i (0, 0)).0
greater-from pairs number start place sorted split passed end i low short =
    elim end [
      | inl past ↦ absurd (omega arith)
      | inr here ↦
          let up : (get_or pairs place (0, 0)).0 ≤ (get_or pairs i (0, 0)).0 = sorted place i (0, 0) low short in
          let least : number ≤ (get_or pairs place (0, 0)).0 = split.behind place (0, 0) passed.from here.0 in
          let other : (get_or pairs place (0, 0)).0 ≢ number = here.1 in
          omega arith
    ]

pub split-next : (pairs : List (ℕ × ℕ)) (number start place : ℕ) → IsNonDecreasingBy (λ pair. pair.0) pairs → AreSplitAt pairs number start
    → ArePassed pairs number start place → IsEnd pairs number place → AreSplitAt pairs (number + 1) place
split-next pairs number start place sorted split passed end = record {
  before = λ k d less short. let same = first-at pairs k d short in elim (cases_lt k start) [
    | inl early ↦ let h = split.before k d early short in omega arith
    | inr late ↦ let h = passed.have k late less short in omega arith
  ];
  behind = λ k d low short. let same = first-at pairs k d short in let h = greater-from pairs number start place sorted split passed end k low short in
      omega arith;
}

pub partners-all : (pairs : List (ℕ × ℕ)) (number start place : ℕ) (old new : List ℕ) → IsNonDecreasingBy (λ pair. pair.0) pairs → AreSplitAt pairs number start
    → ArePassed pairs number start place → IsEnd pairs number place
    → AddsUpTo old new (IsPartnerAt pairs start) place → Adds old new (λ k. Contains pairs (number, k))
partners-all pairs number start place old new sorted split passed end adds =
    adds-same old new (UpTo (IsPartnerAt pairs start) place) (λ k. Contains pairs (number, k))
    (λ k up.
    let i = up.0 in
    let short : i < length pairs = up.2.1 in
    let first : (get_or pairs i (0, 0)).0 ≡ number = passed.have i up.2.0 up.1 short in
    let second : (get_or pairs i (0, 0)).1 ≡ k = up.2.2 in
    let whole : get_or pairs i (0, 0) ≡ (number, k) = λ j. (first j, second j) in
    (i, short, get_or_default pairs i (number, k) (0, 0) short ∙ whole))
    (λ k there.
    let i = there.0 in
    let whole : get_or pairs i (0, 0) ≡ (number, k) = get_or_default pairs i (0, 0) (number, k) there.1 ∙ there.2 in
    let first : (get_or pairs i (0, 0)).0 ≡ number = ap (λ (x : ℕ × ℕ). x.0) whole in
    let low : start ≤ i = elim (cases_lt i start) [
      | inl early ↦ absurd (let h = split.before i (0, 0) early there.1 in omega arith)
      | inr late ↦ late
    ] in
    let high : i < place = elim (cases_lt i place) [
      | inl less ↦ less
      | inr more ↦ absurd (let h = greater-from pairs number start place sorted split passed end i more there.1 in omega arith)
    ] in
    (i, high, (low, there.1, ap (λ (x : ℕ × ℕ). x.1) whole)))
    adds

-- all first numbers are at least the first one
pub split-start : (pairs : List (ℕ × ℕ)) (number : ℕ) → ((pair : ℕ × ℕ) → Contains pairs pair → number ≤ pair.0) → AreSplitAt pairs number 0
split-start pairs number least = record {
  before = λ k d less short. absurd (omega arith);
  behind = λ k d low short. least (get_or pairs k d) (k, short, get_or_default pairs k (get_or pairs k d) d short);
}
