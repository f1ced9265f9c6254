-- What a solver keeps, and how derived lines are kept.
use Rattle.std.specs.Prelude.{◌≡◌, ℕ, List, [], map, Option, IfSome, slice_index_or}
use Rattle.dist_derive.specs.ClauseLog.{ClauseLog, inputs_of}
use Rattle.dist_derive.specs.Follows.{EachLineFollows}
use Rattle.dist_derive.specs.Safe.{AreSafe}
use Rattle.dist_search.specs.Search.{SearchState, IsWatching}
use Rattle.dist_solver.specs.Derived.{DerivedLine}
use Rattle.dist_solver.specs.declared.lines.Line.{Line}

-- each line as its number and the place of its hints among all lists of hints
abbrev pub lines_kept : List (List ℕ) → List Line → List DerivedLine
lines_kept hints lines = map (λ l. record { line = l.number; hints = slice_index_or hints l.place [] }) lines

-- a search can begin the next question over a log
abbrev pub IsReady : ClauseLog → SearchState → Type 0
IsReady log search = (search.trail.variables ≡ log.variables) × IsWatching log.clauses search

-- the room for questions is over the log's variables, each line of the log follows from the clauses before it, all its
-- clauses are safe, and a search that is kept is ready for the next question
pub record IsSound (log : ClauseLog) (cone_variables guess_variables : ℕ) (search : Option SearchState) : Type 0 where
  pub cone : cone_variables ≡ log.variables
  pub guesses : guess_variables ≡ log.variables
  pub lines_follow : EachLineFollows log.inputs log.clauses
  pub safe : AreSafe (inputs_of log) log.clauses
  pub ready : IfSome search (IsReady log)
