-- What each answer to a question means. `old` is the log before the question, and `new` the log after it.
use Rattle.std.specs.Prelude.{◌≡◌, ℕ, ◌+◌, ◌^◌, ◌<◌, ◌≤◌, ◌↔◌, Bool, List, length, map, All, Contains, Result, Ok, Err}
use Rattle.dist_clause.specs.Formula.{Literal, negation, value_of, IsTrueLiteral, IsModel, IsClauseOver}
use Rattle.dist_clause.specs.ClauseList.{literal_count}
use Rattle.dist_derive.specs.ClauseLog.{ClauseLog, inputs_of, lines_of}
use Rattle.dist_derive.specs.Follows.{Follows}
use Rattle.dist_derive.specs.Cone.{InCone}
use Rattle.dist_derive.specs.New.{IsNew}
use Rattle.dist_solver.specs.Evidence.{IsShort}
use Rattle.dist_solver.specs.declared.answers.Answer.{Answer}
use Rattle.dist_solver.specs.declared.answers.Answer.TheVariants.{Found, Refuted, Undecided}
use Rattle.dist_solver.specs.declared.answers.AskError.{AskError}
use Rattle.dist_solver.specs.declared.answers.AskError.TheVariants.{TooManyLines, TooManyLiterals, NoMemory}

-- Found: a model of the input clauses in which the assumptions are true.
pub record IsModelUnder (log : ClauseLog) (assumptions : List Literal) (values : List Bool) : Type 0 where
  pub variables : length values ≡ log.variables
  pub model : IsModel (value_of values) (inputs_of log)
  pub assumed : All (IsTrueLiteral (value_of values)) assumptions

-- Refuted: the clause of the negated assumptions follows from the log by the hints, so that no model of the input
-- clauses makes the assumptions true.
pub record IsRefutation (log : ClauseLog) (assumptions : List Literal) (hints : List ℕ) : Type 0 where
  pub follows : Follows log.clauses (map negation assumptions) hints
  pub short : IsShort log.variables hints
  pub no_model : (value : ℕ → Bool) → IsModel value (inputs_of log) → ¬ All (IsTrueLiteral value) assumptions

-- Undecided: the question added exactly `limit` lines. Such a limit is at most 3 to the power of the number of the
-- cone's variables; the cone is given by a list of them.
pub record IsUndecided (old new : ClauseLog) (assumptions : List Literal) (limit : ℕ) : Type 0 where
  pub lines : length new.clauses ≡ length old.clauses + limit
  pub limit_small : (cone : List ℕ) → ((v : ℕ) → Contains cone v ↔ InCone (inputs_of old) assumptions v)
      → limit ≤ 3 ^ length cone

-- A clause that follows by some hints, not too many, and is new, and for which the question had lines left.
pub record HasNext (old new : ClauseLog) (assumptions : List Literal) (limit : ℕ) (clause : List Literal) : Type 0 where
  pub over : IsClauseOver new.variables clause
  pub hints : List ℕ
  pub follows : Follows new.clauses clause hints
  pub short : IsShort new.variables hints
  pub is_new : IsNew new.clauses new.inputs assumptions clause
  pub lines_left : length new.clauses < length old.clauses + limit

-- What the answer to a question promises. The two limits of the log come only with a clause that would pass them, the
-- number of lines before that of literals. Want of memory promises nothing.
abbrev pub IsAnswer : ClauseLog → ClauseLog → List Literal → ℕ → Result Answer AskError → Type 0
IsAnswer old new assumptions limit (Ok (Found values)) = IsModelUnder old assumptions values
IsAnswer old new assumptions limit (Ok (Refuted hints)) = IsRefutation new assumptions hints
IsAnswer old new assumptions limit (Ok Undecided) = IsUndecided old new assumptions limit
IsAnswer old new assumptions limit (Err TooManyLines) = (clause : List Literal)
    × HasNext old new assumptions limit clause
    × (length (lines_of new) ≡ new.line_limit)
IsAnswer old new assumptions limit (Err TooManyLiterals) = (clause : List Literal)
    × HasNext old new assumptions limit clause
    × (length (lines_of new) < new.line_limit) × (new.line_literal_limit < literal_count (lines_of new) + length clause)
IsAnswer old new assumptions limit (Err NoMemory) = Unit {0}
