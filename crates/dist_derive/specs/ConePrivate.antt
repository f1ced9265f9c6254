-- How the cone of assumptions grows under the clauses, and which clauses are still to be looked at.
use Rattle.std.specs.Prelude.{◌≡◌, ◌⊎◌, ℕ, Bool, true, false, ◌<◌, ◌≤◌, List, length, take, All, Contains}
use Rattle.dist_clause.specs.Formula.{Literal}
use Rattle.dist_clause.specs.ClauseList.{clause_at}
use Rattle.dist_derive.specs.ContainmentPrivate.{ContainsAll}
use Rattle.dist_derive.specs.VariableSet.{VariableList}
use Rattle.dist_derive.specs.Cone.{IsClosedUnder, IsWithinCone}
use Rattle.dist_derive.specs.Marking.{HasAll}
use Rattle.dist_derive.specs.OccurrencesPrivate.{OccurrenceLists}

-- a negative literal of the clause is of none of the variables
pub record HasNegativeOutside (variables : List ℕ) (clause : List Literal) : Type 0 where
  pub outside : Literal
  pub member : Contains clause outside
  pub negative : outside.positive ≡ false
  pub not_in : ¬ Contains variables outside.variable

-- Where the first `done` members are taken: the clause's variables are all in, or it is looked at again when a later
-- member is taken.
abbrev pub WaitsIn : List ℕ → ℕ → List Literal → Type 0
WaitsIn members done clause = All (λ l. Contains members l.variable) clause
    ⊎ HasNegativeOutside (take done members) clause

-- the clauses in the index with numbers up to `inputs` wait
abbrev pub AllWaitIn : OccurrenceLists → List (List Literal) → ℕ → List ℕ → ℕ → Type 0
AllWaitIn index clauses inputs members done = (number : ℕ) → 1 ≤ number → number ≤ index.covered → number ≤ inputs
    → WaitsIn members done (clause_at clauses number)

-- members have come behind those that were in, all of them in each closed set that has these
pub record Reaches (clauses : List (List Literal)) (old new : VariableList) : Type 0 where
  pub same_variables : new.variables ≡ old.variables
  pub kept : ContainsAll new.members old.members
  pub longer : length old.members ≤ length new.members
  pub front : (done : ℕ) → done ≤ length old.members → take done new.members ≡ take done old.members
  pub least : (has : ℕ → Bool) → HasAll has old.members → IsClosedUnder has clauses → HasAll has new.members

-- all variables of the clauses with numbers above the last one are in the cone
abbrev pub AreLinesWithin : List (List Literal) → List (List Literal) → List Literal → ℕ → Type 0
AreLinesWithin inputs clauses assumptions last = (number : ℕ) → last < number → number ≤ length clauses
    → IsWithinCone inputs assumptions (clause_at clauses number)

-- each closed set that has the members has all variables of the clauses with numbers above the last one
abbrev pub AreReachedLines : List (List Literal) → List (List Literal) → List ℕ → ℕ → Type 0
AreReachedLines inputs clauses members last = (number : ℕ) → last < number → number ≤ length clauses
    → (has : ℕ → Bool) → HasAll has members → IsClosedUnder has inputs
    → All (λ l. has l.variable ≡ true) (clause_at clauses number)
