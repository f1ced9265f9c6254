-- A line is added to the log, or is refused at one of its limits; and what want of memory leaves open.
use Rattle.std.specs.Prelude.{◌≡◌, ◌+◌, ◌<◌, ℕ, List, [], ◌∷◌, ◌++◌, length, Result, Ok, Err}
use Rattle.dist_clause.specs.Formula.{Literal}
use Rattle.dist_clause.specs.ClauseList.{literal_count}
use Rattle.dist_derive.specs.ClauseLog.{ClauseLog, lines_of}
use Rattle.dist_solver.specs.Derived.{DerivedLine}
use Rattle.dist_solver.specs.declared.answers.Answer.{Answer}
use Rattle.dist_solver.specs.declared.answers.AskError.{AskError}
use Rattle.dist_solver.specs.declared.answers.AskError.TheVariants.{TooManyLines, TooManyLiterals, NoMemory}

-- why the log refuses a clause
abbrev pub IsRefused : ClauseLog → List Literal → AskError → Type 0
IsRefused log clause TooManyLines = length (lines_of log) ≡ log.line_limit
IsRefused log clause TooManyLiterals = (length (lines_of log) < log.line_limit)
    × (log.line_literal_limit < literal_count (lines_of log) + length clause)
IsRefused log clause NoMemory = Unit {0}

-- the log and the derived lines both have the line behind the others, or are both as before
abbrev pub Learns : ClauseLog → ClauseLog → List DerivedLine → List DerivedLine → List Literal → List ℕ
    → Result Unit AskError → Type 0
Learns old new old_derived new_derived clause hints (Ok done) =
    (new ≡ record old { clauses = old.clauses ++ clause ∷ [] })
    × (new_derived ≡ old_derived ++ record { line = length old.clauses + 1; hints = hints } ∷ [])
Learns old new old_derived new_derived clause hints (Err cause) = (new ≡ old) × (new_derived ≡ old_derived)
    × IsRefused old clause cause

-- this holds, unless memory was wanting
abbrev pub UnlessNoMemory : Result Answer AskError → Type 0 → Type 0
UnlessNoMemory (Ok answer) P = P
UnlessNoMemory (Err TooManyLines) P = P
UnlessNoMemory (Err TooManyLiterals) P = P
UnlessNoMemory (Err NoMemory) P = Unit {0}
