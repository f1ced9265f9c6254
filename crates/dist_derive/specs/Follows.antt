-- When a clause follows from numbered clauses by a list of hints (reverse unit propagation with hints, as in the
-- LRAT format of refutations).
use Rattle.std.specs.Prelude.{◌≡◌, ℕ, ◌-◌, ◌<◌, ◌≤◌, ◌⊎◌, List, [], ◌∷◌, ◌++◌, length, map, take}
use Rattle.dist_clause.specs.Formula.{Literal, negation}
use Rattle.dist_clause.specs.ClauseList.{clause_at}
use Rattle.dist_derive.specs.Propagation.{AllFalse, IsUnit}

-- a number of a clause, from 1 on
abbrev pub IsNumberOf : List (List Literal) → ℕ → Type 0
IsNumberOf clauses number = (1 ≤ number) × (number ≤ length clauses)

-- Taken in order, each hinted clause is false, or it is unit and its literal becomes true; the last one is false.
abbrev pub EndsFalse : List (List Literal) → List Literal → List ℕ → Type 0
EndsFalse clauses trues [] = ⊥
EndsFalse clauses trues (hint ∷ hints) = IsNumberOf clauses hint
    × ((AllFalse trues (clause_at clauses hint) × ((hints ≡ []) ⊎ EndsFalse clauses trues hints))
    ⊎ ((l : Literal) × IsUnit trues (clause_at clauses hint) l × EndsFalse clauses (trues ++ l ∷ []) hints))

-- the negated literals of the clause are true, and the hints end in a false clause
abbrev pub Follows : List (List Literal) → List Literal → List ℕ → Type 0
Follows clauses clause hints = EndsFalse clauses (map negation clause) hints

-- A step of unit propagation: the number of a clause, and the literal that it makes true.
pub record Step : Type 0 where
  pub number : ℕ
  pub made_true : Literal

-- taken in order, the clause of each step is unit by the step's literal, which becomes true
abbrev pub AreUnitSteps : List (List Literal) → List Literal → List Step → Type 0
AreUnitSteps clauses trues [] = Unit {0}
AreUnitSteps clauses trues (step ∷ steps) = IsNumberOf clauses step.number
    × IsUnit trues (clause_at clauses step.number) step.made_true
    × AreUnitSteps clauses (trues ++ step.made_true ∷ []) steps

-- each clause after the inputs follows from the clauses before it, by some hints
abbrev pub EachLineFollows : ℕ → List (List Literal) → Type 0
EachLineFollows inputs clauses = (number : ℕ) → inputs < number → number ≤ length clauses
    → (hints : List ℕ) × Follows (take (number - 1) clauses) (clause_at clauses number) hints
