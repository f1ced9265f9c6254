-- Files whose lines answer one question: a first line of numbers, and lines without claims.
use Rattle.std.specs.Prelude.{◌≡◌, ℕ, ◌≤◌, List, All, length, slice_index_or}
use Rattle.dist_base.specs.declared.TheConstants.{MAX_LIMIT}
use Rattle.dist_outside.specs.declared.limits.Limits.{Limits}
use Rattle.dist_outside.specs.declared.trouble.What.{What}
use Rattle.dist_clause.specs.ClauseList.{literal_count}
use Rattle.dist_clause.specs.Formula.{Literal}
use Rattle.dist_cert.specs.FirstLines.{first_line}
use Rattle.dist_cert.specs.Form.{IsSmall}
use Rattle.dist_judge.specs.FileKind.{FileKind}
use Rattle.dist_findings.specs.Unclaimed.{HasUnclaimedFault}
use Rattle.dist_findings.specs.Findings.{findings}
use Rattle.dist_findings.specs.declared.finding.Finding.{Finding}

-- what lines are judged by: so many variables, and clauses over them
pub record Inputs : Type 0 where
  pub variables : ℕ
  pub clauses : List (List Literal)

-- What a first line begins with, and how many numbers follow; what files with these numbers are judged by, and whether
-- the numbers are right; when findings decide the answer; and the limits.
pub record AnswerFile : Type 1 where
  pub front : List ℕ
  pub count : ℕ
  pub IsBasisOf : (numbers : List ℕ) → Inputs → Type 0
  pub Fits : Inputs → (numbers : List ℕ) → Type 0
  pub IsDecided : (numbers : List ℕ) → List Finding → Type 0
  pub IsWithin : Limits → Inputs → Type 0
  pub PassesFirst : (numbers : List ℕ) → Limits → What → Type 0

-- the variables, the clauses and their literals keep the limits
pub record AreWithin (limits : Limits) (basis : Inputs) : Type 0 where
  pub variables : basis.variables ≤ limits.variables
  pub clauses : length basis.clauses ≤ limits.clauses
  pub literals : literal_count basis.clauses ≤ limits.literals

-- a number of a first line, by its place from 0
abbrev pub number_at : ℕ → List ℕ → ℕ
number_at place numbers = slice_index_or numbers place 0

-- the limit is the first number
abbrev pub limit_of : List ℕ → ℕ
limit_of numbers = number_at 0 numbers

-- There are so many numbers, and the limit is one that may be given.
abbrev pub AreCounted : ℕ → List ℕ → Type 0
AreCounted count numbers = (length numbers ≡ count) × (1 ≤ limit_of numbers) × (limit_of numbers ≤ MAX_LIMIT)

-- The line, without its line feed, is the first line of these numbers.
pub record HasHeading (file : AnswerFile) (line numbers : List ℕ) : Type 0 where
  pub text : line ≡ first_line file.front numbers
  pub counted : AreCounted file.count numbers
  pub small : All IsSmall numbers

-- the line is no first line
abbrev pub HasNoHeading : AnswerFile → (line : List ℕ) → Type 0
HasNoHeading file line = (numbers : List ℕ) → ¬ HasHeading file line numbers

-- as files that are judged line by line
abbrev pub files_of : AnswerFile → FileKind
files_of file = record {
  Heading = List ℕ;
  heading_text = first_line file.front;
  HasHeadingForm = HasHeading file;
  Basis = Inputs;
  IsBasisOf = file.IsBasisOf;
  Fits = file.Fits;
  HasFault = λ inputs numbers. HasUnclaimedFault (λ before. file.IsDecided numbers (findings before)) inputs.variables
      inputs.clauses (limit_of numbers);
  IsWithin = file.IsWithin;
  PassesFirst = file.PassesFirst;
}
