-- The literals of a line over the variables of a log, and why a line is not added to it.
use Rattle.std.specs.Prelude.{◌≡◌, ℕ, ◌+◌, ◌<◌, ◌≤◌, List, All, length}
use Rattle.dist_outside.specs.declared.trouble.What.TheVariants.{Lines, LineLiterals}
use Rattle.dist_outside.specs.declared.trouble.WorkError.{WorkError}
use Rattle.dist_outside.specs.declared.trouble.WorkError.TheVariants.{TooLarge, NoMemory}
use Rattle.dist_clause.specs.ClauseList.{literal_count}
use Rattle.dist_clause.specs.Formula.{Literal}
use Rattle.dist_derive.specs.ClauseLog.{ClauseLog, lines_of}
use Rattle.dist_cert.specs.Form.{Word, AreLiterals}

-- literals of variables from 1 to the last, none of which stands twice
pub record AreLiteralsOver (last : ℕ) (literals : List Word) : Type 0 where
  pub form : AreLiterals literals
  pub upto : All (λ l. l.0 ≤ last) literals

-- why a clause was not added to a log
abbrev pub IsAppendCause : ClauseLog → List Literal → WorkError → Type 0
IsAppendCause log clause (TooLarge Lines) = length (lines_of log) ≡ log.line_limit
IsAppendCause log clause (TooLarge LineLiterals) = (length (lines_of log) < log.line_limit)
    × (log.line_literal_limit < literal_count (lines_of log) + length clause)
IsAppendCause log clause NoMemory = Unit {0}
IsAppendCause log clause error = ⊥
