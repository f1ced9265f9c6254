-- What a file is judged by, behind a first line of numbers.
use Rattle.std.specs.Prelude.{◌≡◌, ℕ, List, Option, Some, None}
use Rattle.dist_outside.specs.declared.limits.Limits.{Limits}
use Rattle.dist_outside.specs.declared.trouble.What.{What}
use Rattle.dist_outside.specs.declared.trouble.What.TheVariants.{Variables, Clauses, Literals}
use Rattle.dist_outside.specs.declared.trouble.WorkError.{WorkError}
use Rattle.dist_outside.specs.declared.trouble.WorkError.TheVariants.{NoMemory, TooLarge}
use Rattle.dist_clause.specs.ClauseList.{ClauseList}
use Rattle.dist_findings.specs.AnswerFiles.{AnswerFile, Inputs}

-- the numbers are right by what files with them are judged by
abbrev pub HasRightNumbers : AnswerFile → (numbers : List ℕ) → Type 0
HasRightNumbers file numbers = (basis : Inputs) × file.IsBasisOf numbers basis × file.Fits basis numbers

-- The set holds the clauses that files with these numbers are judged by, which keep the limits, and the numbers are
-- right.
pub record AreRightInputs (file : AnswerFile) (numbers : List ℕ) (limits : Limits) (set : ClauseList) : Type 0 where
  pub basis : Inputs
  pub is_basis : file.IsBasisOf numbers basis
  pub within : file.IsWithin limits basis
  pub fits : file.Fits basis numbers
  pub variables : set.variables ≡ basis.variables
  pub clauses : set.clauses ≡ basis.clauses

-- what files with these numbers are judged by keeps the limits, and a number is wrong
pub record AreWrongNumbers (file : AnswerFile) (numbers : List ℕ) (limits : Limits) : Type 0 where
  pub basis : Inputs
  pub is_basis : file.IsBasisOf numbers basis
  pub within : file.IsWithin limits basis
  pub wrong : ¬ file.Fits basis numbers

-- the clauses, or none where the numbers are not right
abbrev pub GivesInputs : AnswerFile → List ℕ → Limits → Option ClauseList → Type 0
GivesInputs file numbers limits (Some set) = AreRightInputs file numbers limits set
GivesInputs file numbers limits None = AreWrongNumbers file numbers limits

-- too many variables, input clauses or literals, or no memory
abbrev pub IsLargeInput : (What → Type 0) → WorkError → Type 0
IsLargeInput Passes (TooLarge Variables) = Passes Variables
IsLargeInput Passes (TooLarge Clauses) = Passes Clauses
IsLargeInput Passes (TooLarge Literals) = Passes Literals
IsLargeInput Passes NoMemory = Unit {0}
IsLargeInput Passes error = ⊥
