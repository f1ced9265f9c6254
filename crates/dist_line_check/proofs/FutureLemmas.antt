-- The clauses that say what a future is, by their numbers.
use Rattle.std.proofs.Common.{◌≡◌, inl, inr, ℕ, ◌+◌, ◌-◌, ◌<◌, ◌≤◌, Bool, List, [], length, get_or, take, drop, min, sym, ap, subst, ◌∙◌, arith}
use Rattle.std.proofs.lemmas.Bool.{cases_lt}
use Rattle.std.proofs.lemmas.List.{get_or-take, get_or-drop, length-take, length-drop, length-take-le, get_or_default, take-take, take_all}
use Rattle.dist_clause.specs.ClauseList.{clause_at}
use Rattle.dist_clause.specs.Formula.{Literal, MakesTrue, IsModel}
use Rattle.dist_line_check.specs.declared.future.FutureClauses.{FutureClauses}
use Rattle.dist_line_check.specs.Future.{StandsForFuture}

-- the clause of a number among the first ones
front-clause : (clauses : List (List Literal)) (n number : ℕ) → 1 ≤ number → number ≤ n → clause_at (take n clauses) number ≡ clause_at clauses number
front-clause clauses n number from upto = get_or-take n clauses (number - 1) [] (omega (arith, from, upto))

clause-is : (clauses : List (List Literal)) (k : ℕ) (d : List Literal) → k < length clauses → clause_at clauses (k + 1) ≡ get_or clauses k d
clause-is clauses k d within =
    let place : k + 1 - 1 ≡ k = omega arith in ap (λ (n : ℕ). get_or clauses n []) place ∙ get_or_default clauses k [] d within

-- the clauses behind one number, up to another, are true
abbrev pub AreTrueIn : (ℕ → Bool) → List (List Literal) → ℕ → ℕ → Type 0
AreTrueIn value clauses behind upto = (number : ℕ) → behind < number → number ≤ upto → MakesTrue value (clause_at clauses number)

front-model : (value : ℕ → Bool) (clauses : List (List Literal)) (n upto : ℕ) → n ≤ length clauses → AreTrueIn value clauses 0 (min upto n)
    → IsModel value (take upto (take n clauses))
front-model value clauses n upto within true k d short =
    let size = length-take upto (take n clauses) in
    let whole = length-take-le n clauses within in
    let low : k < upto = omega (arith, short, size, whole) in
    let inside : k < n = omega (arith, short, size, whole) in
    subst (MakesTrue value)
    (clause-is clauses k d (omega (arith, inside, within)) ∙ sym (get_or-take n clauses k d inside) ∙ sym (get_or-take upto (take n clauses) k d low))
    (true (k + 1) (omega arith) (omega (arith, low, inside)))

back-model : (value : ℕ → Bool) (clauses : List (List Literal)) (n behind : ℕ) → n ≤ length clauses → AreTrueIn value clauses behind n
    → IsModel value (drop behind (take n clauses))
back-model value clauses n behind within true k d short =
    let size = length-drop behind (take n clauses) in
    let whole = length-take-le n clauses within in
    let inside : behind + k < n = omega (arith, short, size, whole) in
    subst (MakesTrue value)
    (clause-is clauses (behind + k) d (omega (arith, inside, within)) ∙ sym (get_or-take n clauses (behind + k) d inside)
    ∙ sym (get_or-drop behind (take n clauses) k d))
    (true (behind + k + 1) (omega arith) (omega (arith, inside)))

model-front : (value : ℕ → Bool) (clauses : List (List Literal)) (n upto : ℕ) → n ≤ length clauses → IsModel value (take upto (take n clauses))
    → AreTrueIn value clauses 0 (min upto n)
model-front value clauses n upto within model number from last =
    let size = length-take upto (take n clauses) in
    let whole = length-take-le n clauses within in
    let low : number - 1 < upto = omega (arith, from, last) in
    let inside : number ≤ n = omega (arith, last) in
    subst (MakesTrue value) (get_or-take upto (take n clauses) (number - 1) [] low ∙ front-clause clauses n number from inside)
    (model (number - 1) [] (omega (arith, from, last, size, whole)))

model-back : (value : ℕ → Bool) (clauses : List (List Literal)) (n behind : ℕ) → n ≤ length clauses → IsModel value (drop behind (take n clauses))
    → AreTrueIn value clauses behind n
model-back value clauses n behind within model number past upto =
    let size = length-drop behind (take n clauses) in
    let whole = length-take-le n clauses within in
    let place : behind + (number - behind - 1) ≡ number - 1 = omega (arith, past) in
    subst (MakesTrue value)
    (get_or-drop behind (take n clauses) (number - behind - 1) [] ∙ ap (λ (k : ℕ). get_or (take n clauses) k []) place
    ∙ front-clause clauses n number (omega (arith, past)) upto)
    (model (number - behind - 1) [] (omega (arith, past, upto, size, whole)))

-- a front of a front
take-both : (m n : ℕ) (clauses : List (List Literal)) → n ≤ length clauses → take m (take n clauses) ≡ take (min m n) clauses
take-both m n clauses within = elim (cases_lt n m) [
  | inl less ↦
      let size = length-take-le n clauses within in
      let short : length (take n clauses) ≤ m = omega (arith, size, less) in
      let same : n ≡ min m n = omega (arith, less) in
      take_all m (take n clauses) short ∙ ap (λ (k : ℕ). take k clauses) same
  | inr upto ↦
      let same : m ≡ min m n = omega (arith, upto) in
      take-take m n clauses upto ∙ ap (λ (k : ℕ). take k clauses) same
]

pub future-from : (value : ℕ → Bool) (clauses : List (List Literal)) (n : ℕ) (which : FutureClauses) → n ≤ length clauses
    → AreTrueIn value clauses 0 (min which.upto n) → AreTrueIn value clauses which.behind (min which.last n)
    → StandsForFuture which value (take n clauses)
future-from value clauses n which within front back = (
  front-model value clauses n which.upto within front,
  subst (λ (cs : List (List Literal)). IsModel value (drop which.behind cs)) (sym (take-both which.last n clauses within))
      (back-model value clauses (min which.last n) which.behind (omega (arith, within)) back),
)

pub from-future : (value : ℕ → Bool) (clauses : List (List Literal)) (n : ℕ) (which : FutureClauses) → n ≤ length clauses
    → StandsForFuture which value (take n clauses)
    → AreTrueIn value clauses 0 (min which.upto n) × AreTrueIn value clauses which.behind (min which.last n)
from-future value clauses n which within stands = (
  model-front value clauses n which.upto within stands.0,
  model-back value clauses (min which.last n) which.behind (omega (arith, within))
      (subst (λ (cs : List (List Literal)). IsModel value (drop which.behind cs)) (take-both which.last n clauses within) stands.1),
)
