-- The files of explanations: their first line, and what they are judged by.
use Rattle.std.specs.Prelude.{◌≡◌, ◌⊎◌, ℕ, ◌+◌, ◌≤◌, false, List, codes, length}
use Rattle.dist_clause.specs.ClauseList.{ClauseList, literal_count}
use Rattle.dist_clause.specs.Formula.{Literal}
use Rattle.dist_outside.specs.declared.limits.Limits.{Limits}
use Rattle.dist_outside.specs.declared.trouble.What.{What}
use Rattle.dist_repo.specs.PackageList.{PackageList}
use Rattle.dist_now.specs.PresentClauses.{ArePresentClauses}
use Rattle.dist_subject.specs.Limited.{PassesPresent}
use Rattle.dist_explain.specs.Answered.{AreAnswered}
use Rattle.dist_explain.specs.Selectors.{PassesSelected, selected_clauses}
use Rattle.dist_explain.specs.declared.asked.Asked.{Asked}
use Rattle.dist_findings.specs.AnswerFiles.{AnswerFile, AreWithin, Inputs, number_at}

-- The numbers of a first line are in their order the limit, how many packages and relations there are, and the package.
-- What they speak of:
abbrev pub asked_by : List ℕ → Asked
asked_by numbers = record {
  packages = number_at 1 numbers;
  relations = number_at 2 numbers;
  number = number_at 3 numbers;
}

-- Files are judged by the clauses of the present at mode plain, each with its selector.
pub record IsSelectedOf (r : PackageList) (basis : Inputs) : Type 0 where
  pub clauses : List (List Literal)
  pub are_clauses : ArePresentClauses r false clauses
  pub selected_ones : basis.clauses ≡ selected_clauses r clauses
  pub variables : basis.variables ≡ length r.packages + length clauses

-- The numbers are those of so many packages, and so many variables, one for each package and each relation; the package
-- is one of these.
pub record AreNumbersFor (packages variables : ℕ) (numbers : List ℕ) : Type 0 where
  pub packages_are : number_at 1 numbers ≡ packages
  pub variables_are : number_at 1 numbers + number_at 2 numbers ≡ variables
  pub from_one : 1 ≤ number_at 3 numbers
  pub upto : number_at 3 numbers ≤ packages

-- The set holds what files are judged by, and keeps the limits.
pub record AreSelectedInputs (r : PackageList) (limits : Limits) (set : ClauseList) : Type 0 where
  pub is_basis : IsSelectedOf r (record { variables = set.variables; clauses = set.clauses })
  pub within : AreWithin limits (record { variables = set.variables; clauses = set.clauses })

-- The clauses of the present keep their limits, and with their selectors this number is passed first.
pub record PassesWithSelectors (r : PackageList) (limits : Limits) (what : What) : Type 0 where
  pub plain : ClauseList
  pub are_clauses : ArePresentClauses r false plain.clauses
  pub variables : plain.variables ≡ length r.packages
  pub clauses_kept : length plain.clauses ≤ limits.clauses
  pub literals_kept : literal_count plain.clauses ≤ limits.literals
  pub passes : PassesSelected limits plain what

-- The number that is passed first: by the clauses of the present, or else with their selectors.
abbrev pub PassesFirst : PackageList → Limits → What → Type 0
PassesFirst r limits what = PassesPresent r false limits what ⊎ PassesWithSelectors r limits what

-- The files: what their first lines begin with, what they are judged by, and when their lines have decided an answer.
abbrev pub explanation_files : PackageList → AnswerFile
explanation_files r = record {
  front = codes "distfuture-explain 1";
  count = 4;
  IsBasisOf = λ numbers basis. IsSelectedOf r basis;
  Fits = λ basis. AreNumbersFor (length r.packages) basis.variables;
  IsDecided = λ numbers found. AreAnswered (asked_by numbers) found;
  IsWithin = AreWithin;
  PassesFirst = λ numbers limits what. PassesFirst r limits what;
}
