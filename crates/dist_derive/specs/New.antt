-- When a clause adds to what unit propagation gives under assumptions, and speaks only of variables that the
-- assumptions reach.
use Rattle.std.specs.Prelude.{◌≢◌, ℕ, ◌-◌, ◌<◌, ◌≤◌, List, [], ◌∷◌, ◌++◌, length, take, All, AllPairs, Contains}
use Rattle.dist_clause.specs.Formula.{Literal}
use Rattle.dist_clause.specs.ClauseList.{clause_at}
use Rattle.dist_derive.specs.Propagation.{IsFalse, IsUnset, IsSettled}
use Rattle.dist_derive.specs.Cone.{IsWithinCone}

-- True literals with which propagation under the assumptions and the negated rest of a clause may end, without a
-- conflict and with the clause's first literal unset.
pub record LeavesUnset (clauses : List (List Literal)) (assumptions : List Literal) (first : Literal)
    (rest trues : List Literal) : Type 0 where
  pub settled : IsSettled clauses trues
  pub assumed : All (Contains trues) assumptions
  pub denied : All (IsFalse trues) rest
  pub unset : IsUnset trues first

-- some true literals leave the clause's first literal unset
abbrev pub LeavesFirstUnset : List (List Literal) → List Literal → List Literal → Type 0
LeavesFirstUnset clauses assumptions [] = ⊥
LeavesFirstUnset clauses assumptions (first ∷ rest) = (trues : List Literal)
    × LeavesUnset clauses assumptions first rest trues

-- A clause is new under assumptions. Of the clauses the first ones, up to the number `inputs`, are the input clauses.
pub record IsNew (clauses : List (List Literal)) (inputs : ℕ) (assumptions clause : List Literal) : Type 0 where
  pub distinct : AllPairs (λ l m. l.variable ≢ m.variable) clause
  pub within_cone : IsWithinCone (take inputs clauses) assumptions clause
  pub adds : LeavesFirstUnset clauses assumptions clause

-- lines that are added one after another, each new under the same assumptions when it was added
abbrev pub EachIsNew : List (List Literal) → ℕ → List Literal → List (List Literal) → Type 0
EachIsNew clauses inputs assumptions [] = Unit {0}
EachIsNew clauses inputs assumptions (line ∷ lines) = IsNew clauses inputs assumptions line
    × EachIsNew (clauses ++ line ∷ []) inputs assumptions lines

-- each clause with a number above the last one was new over those before it
abbrev pub AreNewFrom : List (List Literal) → ℕ → List Literal → ℕ → Type 0
AreNewFrom clauses inputs assumptions last = (number : ℕ) → last < number → number ≤ length clauses
    → IsNew (take (number - 1) clauses) inputs assumptions (clause_at clauses number)
