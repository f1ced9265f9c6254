-- What the watches of clauses guard along a trail.
use Rattle.std.specs.Prelude.{◌≡◌, ◌<◌, ◌≤◌, ℕ, List, length, take, All, Contains}
use Rattle.dist_clause.specs.Formula.{Literal}
use Rattle.dist_clause.specs.ClauseList.{clause_at}
use Rattle.dist_derive.specs.Watches.{WatchLists, AreWatchesOf, IsGuarded, StayFree}
use Rattle.dist_search.specs.Trail.{TrailState, IsGiven, literal_at}

-- The clauses within the cone are guarded: one literal of each is true, or neither of its two watched ones is false by
-- the literals that are seen. The cone is given by its list.
abbrev pub AreGuarded : WatchLists → List (List Literal) → List ℕ → List Literal → List Literal → Type 0
AreGuarded watches clauses cone trues seen = (number : ℕ) → 1 ≤ number → number ≤ length clauses
    → All (λ l. Contains cone l.variable) (clause_at clauses number)
    → IsGuarded watches trues seen (clause_at clauses number) number

-- the same at each start of a trail, by what stood before its decision
abbrev pub IsLevelled : WatchLists → List (List Literal) → List ℕ → TrailState → Type 0
IsLevelled watches clauses cone trail = All (λ s. AreGuarded watches clauses cone (take s trail.literals)
    (take s trail.literals)) trail.starts

-- a trail has grown by literals of the cone that clauses gave, and watches have moved
pub record Advances (clauses : List (List Literal)) (cone : List ℕ) (old new : WatchLists) (before after : TrailState)
    : Type 0 where
  pub watches : AreWatchesOf new clauses
  pub stay : StayFree old new before.literals
  pub same_variables : after.variables ≡ before.variables
  pub same_starts : after.starts ≡ before.starts
  pub longer : length before.literals ≤ length after.literals
  pub front : take (length before.literals) after.literals ≡ before.literals
  pub reasons : take (length before.literals) after.reasons ≡ before.reasons
  pub given : (place : ℕ) → length before.literals ≤ place → place < length after.literals
      → IsGiven clauses after place × Contains cone (literal_at after.literals place).variable
