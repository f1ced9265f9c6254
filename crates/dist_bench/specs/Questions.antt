-- Questions over the clauses of the present of a Packages file's newest packages, and what they are answered.
use Rattle.std.specs.Prelude.{◌≡◌, ◌⊎◌, ℕ, ◌+◌, ◌≤◌, Bool, true, false, List, ◌++◌, All, codes, length}
use Rattle.dist_clause.specs.Formula.{Literal, IsModel, IsTrueLiteral}
use Rattle.dist_derive.specs.ClauseLog.{ClauseLog, inputs_of}
use Rattle.dist_repo.specs.PackageList.{PackageList}
use Rattle.dist_solver.specs.declared.answers.Answer.{Answer}
use Rattle.dist_solver.specs.declared.answers.Answer.TheVariants.{Found, Refuted, Undecided}
use Rattle.dist_bench.specs.Counted.{counted}
use Rattle.dist_bench.specs.Packages.{ArePresentWithin, HasNoPackages, OfNewest, PassesPresentLimits}
use Rattle.dist_bench.specs.declared.error.JobError.{JobError}
use Rattle.dist_bench.specs.declared.error.JobError.TheVariants.{TooManyClauses}
use Rattle.dist_bench.specs.declared.questions.QuestionCounts.{QuestionCounts}

-- the log has the clauses of the present of a repository as its input clauses, over its packages
pub record IsLogOf (r : PackageList) (essential : Bool) (log : ClauseLog) : Type 0 where
  pub are : ArePresentWithin r essential (inputs_of log)
  pub variables : log.variables ≡ length r.packages

-- an answer that is none but want of room says whether some model of the input clauses makes the assumptions true
abbrev pub IsRight : ClauseLog → List Literal → Answer → Type 0
IsRight log assumptions (Found values) = (length values ≡ log.variables)
    × ((value : ℕ → Bool) × IsModel value (inputs_of log) × All (IsTrueLiteral value) assumptions)
IsRight log assumptions (Refuted hints) = (value : ℕ → Bool) → IsModel value (inputs_of log)
    → ¬ All (IsTrueLiteral value) assumptions
IsRight log assumptions Undecided = Unit {0}

-- ---- the answer of `ask-packages` and `ask-essential-packages`

-- how many questions were answered
abbrev pub total : QuestionCounts → ℕ
total counts = (counts.models + counts.refutations) + counts.undecided

abbrev pub asked_text : QuestionCounts → ℕ → ℕ → List ℕ
asked_text counts lines failed = (((counted counts.models (codes " models, ")
    ++ counted counts.refutations (codes " refutations, "))
    ++ counted counts.undecided (codes " undecided, ")) ++ counted lines (codes " derived lines, "))
    ++ counted failed (codes " failed guesses\n")

-- at least so many packages were asked for; how many guesses at the answers failed their tests is told, and no promise
pub record IsAskedOf (packages : ℕ) (answer : List ℕ) : Type 0 where
  pub counts : QuestionCounts
  pub lines : ℕ
  pub failed : ℕ
  pub each : packages ≤ total counts
  pub is : answer ≡ asked_text counts lines failed

-- each package of the repository was
abbrev pub IsAskedText : PackageList → (answer : List ℕ) → Type 0
IsAskedText r answer = IsAskedOf (length r.packages) answer

-- ---- the answer of `ask-last-package`, at mode plain

-- a model of the clauses has the variable
abbrev pub HasModelWith : List (List Literal) → ℕ → Type 0
HasModelWith clauses variable = (1 ≤ variable) × ((value : ℕ → Bool) × IsModel value clauses × (value variable ≡ true))

-- what an answer on a package comes to
abbrev pub said : Answer → List ℕ
said (Found values) = codes "installable, "
said (Refuted hints) = codes "not installable, "
said Undecided = codes "undecided, "

-- what is said of the last package, which may stay undecided
abbrev pub IsVerdict : (r : PackageList) → (verdict : List ℕ) → Type 0
IsVerdict r verdict = (clauses : List (List Literal)) × ArePresentWithin r false clauses
    × (((verdict ≡ codes "installable, ") × HasModelWith clauses (length r.packages))
    ⊎ (((verdict ≡ codes "not installable, ") × (¬ HasModelWith clauses (length r.packages)))
    ⊎ (verdict ≡ codes "undecided, ")))

-- and how many lines were derived for it
pub record IsLastText (r : PackageList) (answer : List ℕ) : Type 0 where
  pub verdict : List ℕ
  pub lines : ℕ
  pub is_verdict : IsVerdict r verdict
  pub is : answer ≡ verdict ++ counted lines (codes " derived lines\n")

-- ---- why they have none

abbrev pub HasNoQuestions : (essential : Bool) → (text : List ℕ) → JobError → Type 0
HasNoQuestions essential text error = HasNoPackages text error
    ⊎ ((error ≡ TooManyClauses) × OfNewest text (λ r. PassesPresentLimits r essential))
