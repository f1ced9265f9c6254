-- What a false clause teaches.
use Rattle.std.specs.Prelude.{◌≡◌, ◌≢◌, ◌+◌, ◌≤◌, ℕ, List, [], ◌∷◌, length, take, AllPairs}
use Rattle.dist_clause.specs.Formula.{Literal}
use Rattle.dist_derive.specs.ClauseLog.{ClauseLog, inputs_of}
use Rattle.dist_derive.specs.Propagation.{IsFalse, AllFalse}
use Rattle.dist_derive.specs.Follows.{EndsFalse, Follows}
use Rattle.dist_derive.specs.Safe.{AreSafe}
use Rattle.dist_search.specs.Trail.{TrailState}

-- a clause, and the hints by which it follows
pub record LearnedClause : Type 0 where
  pub variables : ℕ
  pub clause : List Literal
  pub hints : List ℕ

-- A clause with one literal that became false behind a start, its first one, as that of a first implication point has:
-- all others became false before the start, and none of these later than the first of them.
pub record IsPoint (trail : TrailState) (start : ℕ) (clause : List Literal) : Type 0 where
  pub first : Literal
  pub rest : List Literal
  pub is : clause ≡ first ∷ rest
  pub late : ¬ IsFalse (take start trail.literals) first
  pub early : AllFalse (take start trail.literals) rest
  pub latest : (second : Literal) (more : List Literal) → rest ≡ second ∷ more → (place : ℕ)
      → IsFalse (take place trail.literals) second → AllFalse (take place trail.literals) more

-- A clause that a trail makes false follows from the log by hints, and is safe where the log's clauses are. Where there
-- are no decisions, the hints refute the assumptions.
pub record IsTaught (log : ClauseLog) (assumptions : List Literal) (trail : TrailState) (learned : LearnedClause) :
    Type 0 where
  pub is_false : AllFalse trail.literals learned.clause
  pub distinct : AllPairs (λ l m. l.variable ≢ m.variable) learned.clause
  pub follows : Follows log.clauses learned.clause learned.hints
  pub short : length learned.hints ≤ log.variables + 1
  pub safe : AreSafe (inputs_of log) log.clauses → AreSafe (inputs_of log) (learned.clause ∷ [])
  pub refutes : trail.starts ≡ [] → EndsFalse log.clauses assumptions learned.hints
