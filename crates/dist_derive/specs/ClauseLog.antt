-- What a log holds: its input clauses followed by its derived lines, numbered on from 1.
use Rattle.std.specs.Prelude.{ℕ, ◌≤◌, List, ◌++◌, length, All, take, drop}
use Rattle.dist_clause.specs.Formula.{Literal, IsClauseOver}
use Rattle.dist_clause.specs.ClauseList.{ClauseList, literal_count}

-- a log as contracts see it: input clauses, derived lines behind them, and limits
pub record ClauseLog : Type 0 where
  pub clauses : List (List Literal)
  pub inputs : ℕ
  pub variables : ℕ
  pub line_limit : ℕ
  pub line_literal_limit : ℕ

-- the input clauses, and the derived lines
abbrev pub inputs_of : ClauseLog → List (List Literal)
inputs_of log = take log.inputs log.clauses

abbrev pub lines_of : ClauseLog → List (List Literal)
lines_of log = drop log.inputs log.clauses

-- the log of two clause sets
abbrev pub joined : ClauseList → ClauseList → ClauseLog
joined inputs lines = record {
  clauses = inputs.clauses ++ lines.clauses;
  inputs = length inputs.clauses;
  variables = inputs.variables;
  line_limit = lines.clause_limit;
  line_literal_limit = lines.literal_limit;
}

-- the limits are kept, and each clause is over the log's variables
pub record IsWithinLineLimits (log : ClauseLog) : Type 0 where
  pub inputs_within : log.inputs ≤ length log.clauses
  pub lines_within : length (lines_of log) ≤ log.line_limit
  pub literals_within : literal_count (lines_of log) ≤ log.line_literal_limit
  pub over_variables : All (IsClauseOver log.variables) log.clauses
