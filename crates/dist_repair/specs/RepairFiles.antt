-- The files of repairs: their first line, and what they are judged by.
use Rattle.std.specs.Prelude.{◌≡◌, ◌⊎◌, ℕ, ◌-◌, ◌<◌, ◌≤◌, List, [], codes, length}
use Rattle.dist_clause.specs.Formula.{Literal}
use Rattle.dist_outside.specs.declared.limits.Limits.{Limits}
use Rattle.dist_outside.specs.declared.trouble.What.{What}
use Rattle.dist_space.specs.Space.{SpaceView}
use Rattle.dist_space_clauses.specs.SpaceClauses.{AreSpaceClauses}
use Rattle.dist_findings.specs.AnswerFiles.{AnswerFile, AreWithin, Inputs, number_at}
use Rattle.dist_findings.specs.declared.finding.Finding.{Finding}
use Rattle.dist_repair.specs.Answered.{Answers, Asked}
use Rattle.dist_repair.specs.Counters.{PassesCounted, counted_clauses, counted_variables, counter_of}
use Rattle.dist_base.specs.declared.TheConstants.{MAX_MOST}
use Rattle.dist_repair.specs.declared.repair.Repair.{Repair}

-- The numbers of a first line are in their order the limit, the numbers of packages, of variables and of clauses, the
-- package, from 1, and the most that is counted to. That one:
abbrev pub most_of : List ℕ → ℕ
most_of numbers = number_at 5 numbers

-- what is asked of
abbrev pub asked_by : List ℕ → Asked
asked_by numbers = record { number = number_at 4 numbers - 1; most = most_of numbers }

-- the clauses of the space, with its counter up to the most behind them
pub record AreCountedInputs (s : SpaceView) (most : ℕ) (basis : Inputs) : Type 0 where
  pub clauses : List (List Literal)
  pub are_clauses : AreSpaceClauses s clauses
  pub counted : basis.clauses ≡ counted_clauses s clauses most
  pub variables : basis.variables ≡ counted_variables (counter_of s most)

-- no clauses
abbrev pub no_inputs : Inputs
no_inputs = record { variables = 0; clauses = [] }

-- Files are judged by these clauses, and by none where the most is above the stated one.
abbrev pub IsBasisOf : SpaceView → (numbers : List ℕ) → Inputs → Type 0
IsBasisOf s numbers basis = ((most_of numbers ≤ MAX_MOST) × AreCountedInputs s (most_of numbers) basis)
    ⊎ ((MAX_MOST < most_of numbers) × (basis ≡ no_inputs))

-- There are so many packages, variables and clauses, the package is one of these, and the most is one that may be
-- given.
pub record Fits (s : SpaceView) (basis : Inputs) (numbers : List ℕ) : Type 0 where
  pub packages : number_at 1 numbers ≡ length s.repository.packages
  pub variables : number_at 2 numbers ≡ basis.variables
  pub clauses : number_at 3 numbers ≡ length basis.clauses
  pub from_one : 1 ≤ number_at 4 numbers
  pub upto : number_at 4 numbers ≤ length s.repository.packages
  pub most : most_of numbers ≤ MAX_MOST

-- with a counter up to the most, the number that is passed first
pub record PassesWith (s : SpaceView) (most : ℕ) (limits : Limits) (what : What) : Type 0 where
  pub clauses : List (List Literal)
  pub are_clauses : AreSpaceClauses s clauses
  pub passes : PassesCounted limits s most clauses what

-- the findings of a file have an answer
abbrev pub IsDecided : SpaceView → Asked → List Finding → Type 0
IsDecided s asked found = (repair : Repair) × Answers s asked found repair

-- The files of repairs over a space.
abbrev pub repair_files : SpaceView → AnswerFile
repair_files s = record {
  front = codes "distfuture-repair 1";
  count = 6;
  IsBasisOf = IsBasisOf s;
  Fits = Fits s;
  IsDecided = λ numbers found. IsDecided s (asked_by numbers) found;
  IsWithin = AreWithin;
  PassesFirst = λ numbers limits what. (most_of numbers ≤ MAX_MOST) × PassesWith s (most_of numbers) limits what;
}
