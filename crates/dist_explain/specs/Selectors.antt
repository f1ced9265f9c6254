-- Selectors: a variable for each clause, which makes it count where it is true. With those of some relations a package
-- can't be true exactly where these explain it.
use Rattle.std.specs.Prelude.{◌≡◌, ◌↔◌, ℕ, ◌+◌, ◌≤◌, ◌<◌, Bool, true, false, List, [], ◌∷◌, ◌++◌, All}
use Rattle.std.specs.Prelude.{Some, length, slice_get}
use Rattle.dist_clause.specs.ClauseList.{ClauseList, literal_count}
use Rattle.dist_clause.specs.Formula.{Literal, IsModel, IsTrueLiteral, literal, value_of}
use Rattle.dist_outside.specs.declared.limits.Limits.{Limits}
use Rattle.dist_outside.specs.declared.trouble.What.{What}
use Rattle.dist_outside.specs.declared.trouble.What.TheVariants.{Variables, Literals}
use Rattle.dist_repo.specs.PackageList.{PackageList}
use Rattle.dist_repo.specs.declared.package.Package.{Package}
use Rattle.dist_now.specs.Members.{members_of}
use Rattle.dist_now.specs.PresentClauses.{Demand, installed}
use Rattle.dist_now.specs.Relations.{Fails}
use Rattle.dist_explain.specs.Explanation.{Explain, IsRelation}

-- each clause with its negated selector at the end; the first one's is the variable behind `last`
unfoldable pub selected : (last : ℕ) → List (List Literal) → List (List Literal)
selected last [] = []
selected last (clause ∷ clauses) = (clause ++ literal (last + 1) false ∷ []) ∷ selected (last + 1) clauses

-- the clauses of the present with their selectors, whose variables stand behind those of the packages
abbrev pub selected_clauses : PackageList → List (List Literal) → List (List Literal)
selected_clauses r clauses = selected (length r.packages) clauses

-- the selector of the relation of a number
abbrev pub selector : PackageList → ℕ → ℕ
selector r number = length r.packages + number

-- ---- what they mean

-- The clauses with selectors are true exactly where the packages that are true fail no relation whose selector is true.
abbrev pub AreModelsBySelectors : PackageList → (relations : List Demand) → List (List Literal) → List Bool → Type 0
AreModelsBySelectors r relations clauses values = IsModel (value_of values) (selected_clauses r clauses)
    ↔ ((number : ℕ) (d : Demand) → IsRelation relations number d → value_of values (selector r number) ≡ true
    → ¬ Fails r (members_of r.packages values) d)

-- no model of the clauses with selectors has the package of a number, from 0, and these selectors
abbrev pub HasNoModel : PackageList → List (List Literal) → (package_number : ℕ) → (numbers : List ℕ) → Type 0
HasNoModel r clauses number numbers = (values : List Bool) → IsModel (value_of values) (selected_clauses r clauses)
    → IsTrueLiteral (value_of values) (installed number)
    → ¬ All (λ n. value_of values (selector r n) ≡ true) numbers

-- some relations explain a package exactly where no model has it and their selectors
abbrev pub AreExplainedByNoModel : PackageList → (relations : List Demand) → List (List Literal) → Type 0
AreExplainedByNoModel r relations clauses = (number : ℕ) (p : Package) (numbers : List ℕ)
    → slice_get r.packages number ≡ Some p → All (λ n. (1 ≤ n) × (n ≤ length relations)) numbers
    → Explain r relations p numbers ↔ HasNoModel r clauses number numbers

-- ---- the set that holds them

-- The set holds the clauses of another one with their selectors, and keeps the limits.
pub record IsSelectedSet (limits : Limits) (clauses set : ClauseList) : Type 0 where
  pub selected_ones : set.clauses ≡ selected clauses.variables clauses.clauses
  pub variables : set.variables ≡ clauses.variables + length clauses.clauses
  pub variables_kept : set.variables ≤ limits.variables
  pub literals_kept : literal_count set.clauses ≤ limits.literals

-- the number that they pass first: that of variables, or else that of literals
abbrev pub PassesSelected : Limits → ClauseList → What → Type 0
PassesSelected limits clauses Variables = limits.variables < clauses.variables + length clauses.clauses
PassesSelected limits clauses Literals = (clauses.variables + length clauses.clauses ≤ limits.variables)
    × (limits.literals < literal_count clauses.clauses + length clauses.clauses)
PassesSelected limits clauses what = ⊥
