-- The clauses that a set of variables can make false.
use Rattle.std.proofs.Common.{◌≡◌, inl, inr, ℕ, ◌+◌, ◌-◌, ◌<◌, ◌≤◌, Bool, false, List, [], ◌∷◌, ◌++◌, length, get_or, ap, subst, ◌∙◌, arith}
use Rattle.std.specs.List.{Contains}
use Rattle.std.specs.List.Sorted.{IsNonDecreasingBy, IsPermutation}
use Rattle.std.proofs.lemmas.Bool.{cases_lt, cases_Bool}
use Rattle.std.proofs.lemmas.List.{get_or_default}
use Rattle.std.proofs.lemmas.List.Elements.{Contains-append_left, Contains-push, Contains-push_cases}
use Rattle.std.proofs.lemmas.List.Sorted.{Contains-permutation, IsPermutation-sym}
use Rattle.dist_clause.specs.ClauseList.{clause_at}
use Rattle.dist_clause.specs.Formula.{Literal, literal, MakesTrue, IsModel}
use Rattle.dist_derive.specs.VariableSet.{GivesTrue}
use Rattle.dist_derive.specs.DenialsPrivate.{IsDenied, AreDenialsOf, AreTrueWithin}

-- ---- a negative literal of a clause

-- a negative literal at a place
pub denied-at : (clause : List Literal) (i : ℕ) (l : Literal) → i < length clause → get_or clause i l ≡ l → l.positive ≡ false
    → IsDenied clause l.variable
denied-at clause i l within is negative =
    let same : l ≡ literal l.variable false = ap (λ (b : Bool). literal l.variable b) negative in
    inr (i, within, get_or_default clause i (literal l.variable false) l within ∙ is ∙ same)

-- where its variable is false, the clause is true
denied-true : (value : ℕ → Bool) (clause : List Literal) (v : ℕ) → Contains clause (literal v false) → value v ≡ false → MakesTrue value clause
denied-true value clause v there out = (there.0, literal v false, there.1, there.2, out)

-- ---- the pairs of clauses

-- those of the first clauses
pub record ArePairsUpTo (clauses : List (List Literal)) (place : ℕ) (pairs : List (ℕ × ℕ)) : Type 0 where
  pub numbers : (variable number : ℕ) → Contains pairs (variable, number) → (1 ≤ number) × (number ≤ place)
  pub each : (number : ℕ) → 1 ≤ number → number ≤ place
      → (variable : ℕ) × Contains pairs (variable, number) × IsDenied (clause_at clauses number) variable

pub no-pairs : (clauses : List (List Literal)) → ArePairsUpTo clauses 0 []
no-pairs clauses = record {
  numbers = λ variable number h. absurd (omega (arith, h.1));
  each = λ number from upto. absurd (omega (arith, from, upto));
}

pub pairs-more : (clauses : List (List Literal)) (pairs : List (ℕ × ℕ)) (place denied : ℕ) → IsDenied (clause_at clauses (place + 1)) denied
    → ArePairsUpTo clauses place pairs
    → ArePairsUpTo clauses (place + 1) (pairs ++ (denied, place + 1) ∷ [])
pairs-more clauses pairs place denied is so_far = record {
  numbers = λ variable number h. elim (Contains-push_cases pairs (denied, place + 1) (variable, number) h) [
    | inl earlier ↦ let old = so_far.numbers variable number earlier in (old.0, omega (arith, old.1))
    | inr here ↦
        let second : place + 1 ≡ number = ap (λ (x : ℕ × ℕ). x.1) here in
        (omega (arith, second), omega (arith, second))
  ];
  each = λ number from upto. elim (cases_lt place number) [
    | inr earlier ↦
        let old = so_far.each number from earlier in
        (old.0, Contains-append_left pairs ((denied, place + 1) ∷ []) (old.0, number) old.1, old.2)
    | inl later ↦
        let same : place + 1 ≡ number = omega (arith, later, upto) in (
          denied,
          subst (λ n. Contains (pairs ++ (denied, place + 1) ∷ []) (denied, n)) same (Contains-push pairs (denied, place + 1)),
          subst (λ n. IsDenied (clause_at clauses n) denied) same is,
        )
  ];
}

pub denials-from : (clauses : List (List Literal)) (pairs : List (ℕ × ℕ)) → ArePairsUpTo clauses (length clauses) pairs → AreDenialsOf clauses pairs
denials-from clauses pairs are = record {
  numbers = λ variable number h. are.numbers variable number h;
  each = λ number is. are.each number is.0 is.1;
}

pub denials-moved : (clauses : List (List Literal)) (pairs sorted : List (ℕ × ℕ)) → AreDenialsOf clauses pairs → IsPermutation pairs sorted
    → AreDenialsOf clauses sorted
denials-moved clauses pairs sorted are moved = record {
  numbers = λ variable number h. are.numbers variable number (Contains-permutation sorted pairs (variable, number) (IsPermutation-sym pairs sorted moved) h);
  each = λ number is.
      let old = are.each number is in
      (old.0, Contains-permutation pairs sorted (old.0, number) moved old.1, old.2);
}

-- ---- the clauses of one variable

-- the clauses of a variable's pairs before a place are true
abbrev pub AreTrueUpTo : (ℕ → Bool) → List (List Literal) → List (ℕ × ℕ) → ℕ → ℕ → Type 0
AreTrueUpTo value clauses pairs variable place = (number k : ℕ) → k < place → k < length pairs → get_or pairs k (variable, number) ≡ (variable, number)
    → MakesTrue value (clause_at clauses number)

abbrev pub AreTrue : (ℕ → Bool) → List (List Literal) → List (ℕ × ℕ) → ℕ → Type 0
AreTrue value clauses pairs variable = (number : ℕ) → Contains pairs (variable, number) → MakesTrue value (clause_at clauses number)

-- before the place where they begin there are none
pub none-before : (value : ℕ → Bool) (clauses : List (List Literal)) (pairs : List (ℕ × ℕ)) (variable start : ℕ)
    → ((k : ℕ) (d : ℕ × ℕ) → k < start → (get_or pairs k d).0 < variable)
    → AreTrueUpTo value clauses pairs variable start
none-before value clauses pairs variable start low number k before within is =
    let less = low k (variable, number) before in
    let same : (get_or pairs k (variable, number)).0 ≡ variable = ap (λ (x : ℕ × ℕ). x.0) is in
    absurd (omega (arith, less, same))

-- from a place on up to another too
pub true-within : (value : ℕ → Bool) (clauses : List (List Literal)) (pairs : List (ℕ × ℕ)) (variable place next : ℕ)
    → AreTrueWithin value clauses pairs place next
    → AreTrueUpTo value clauses pairs variable place → AreTrueUpTo value clauses pairs variable next
true-within value clauses pairs variable place next more so_far number k before within is = elim (cases_lt k place) [
  | inl less ↦ so_far number k less within is
  | inr past ↦
      let pair : get_or pairs k (0, 0) ≡ (variable, number) = get_or_default pairs k (0, 0) (variable, number) within ∙ is in
      subst (λ n. MakesTrue value (clause_at clauses n)) (ap (λ (y : ℕ × ℕ). y.1) pair) (more k past before within)
]

-- behind a pair of a later variable there are none
pub true-at-end : (value : ℕ → Bool) (clauses : List (List Literal)) (pairs : List (ℕ × ℕ)) (variable place : ℕ) (x : ℕ × ℕ)
    → IsNonDecreasingBy (λ (pair : ℕ × ℕ). pair.0) pairs → place < length pairs → get_or pairs place x ≡ x
    → variable < x.0 → AreTrueUpTo value clauses pairs variable place → AreTrue value clauses pairs variable
true-at-end value clauses pairs variable place x rising there here past so_far number pair = elim (cases_lt pair.0 place) [
  | inl before ↦ so_far number pair.0 before pair.1 pair.2
  | inr behind ↦
      let low : (get_or pairs place x).0 ≤ (get_or pairs pair.0 x).0 = rising place pair.0 x behind pair.1 in
      let first : (get_or pairs place x).0 ≡ x.0 = ap (λ (y : ℕ × ℕ). y.0) here in
      let second : (get_or pairs pair.0 x).0 ≡ variable = ap (λ (y : ℕ × ℕ). y.0) (get_or_default pairs pair.0 x (variable, number) pair.1 ∙ pair.2) in
      absurd (omega (arith, low, first, second, past))
]

pub true-all : (value : ℕ → Bool) (clauses : List (List Literal)) (pairs : List (ℕ × ℕ)) (variable place : ℕ) → length pairs ≤ place
    → AreTrueUpTo value clauses pairs variable place → AreTrue value clauses pairs variable
true-all value clauses pairs variable place past so_far number pair = so_far number pair.0 (let low = pair.1 in omega (arith, low, past)) pair.1 pair.2

-- ---- all clauses

pub clause-is : (clauses : List (List Literal)) (k : ℕ) (d : List Literal) → k < length clauses → clause_at clauses (k + 1) ≡ get_or clauses k d
clause-is clauses k d within =
    let place : k + 1 - 1 ≡ k = omega arith in ap (λ (n : ℕ). get_or clauses n []) place ∙ get_or_default clauses k [] d within

pub model-from : (clauses : List (List Literal)) (pairs : List (ℕ × ℕ)) (members : List ℕ) (value : ℕ → Bool) → GivesTrue value members
    → AreDenialsOf clauses pairs → AreTrue value clauses pairs 0
    → ((v : ℕ) → Contains members v → AreTrue value clauses pairs v) → IsModel value clauses
model-from clauses pairs members value gives are none each k d within =
    let found = are.each (k + 1) (omega arith, omega (arith, within)) in
    subst (MakesTrue value) (clause-is clauses k d within) (by found.0 found.1 found.2)
  where
    by : (v : ℕ) → Contains pairs (v, k + 1) → IsDenied (clause_at clauses (k + 1)) v → MakesTrue value (clause_at clauses (k + 1))
    by v pair is = elim is [
      | inl zero_is ↦ none (k + 1) (subst (λ u. Contains pairs (u, k + 1)) zero_is pair)
      | inr there ↦ elim (cases_Bool (value v)) [
        | inl is_true ↦ elim (cases_lt 0 v) [
          | inl one ↦ each v ((gives v (omega (arith, one))).0 is_true) (k + 1) pair
          | inr low ↦ none (k + 1) (subst (λ u. Contains pairs (u, k + 1)) (omega (arith, low)) pair)
        ]
        | inr out ↦ denied-true value (clause_at clauses (k + 1)) v there out
      ]
    ]

pub from-model : (value : ℕ → Bool) (clauses : List (List Literal)) (pairs : List (ℕ × ℕ)) (variable : ℕ) → AreDenialsOf clauses pairs → IsModel value clauses
    → AreTrue value clauses pairs variable
from-model value clauses pairs variable are model number pair =
    let is = are.numbers variable number pair in
    model (number - 1) [] (let from = is.0 in let upto = is.1 in omega (arith, from, upto))

-- the clause of a number
pub model-clause : (value : ℕ → Bool) (clauses : List (List Literal)) (number : ℕ) → 1 ≤ number → number ≤ length clauses → IsModel value clauses
    → MakesTrue value (clause_at clauses number)
model-clause value clauses number from upto model = model (number - 1) [] (omega (arith, from, upto))
