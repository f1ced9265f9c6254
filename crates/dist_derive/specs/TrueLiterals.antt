-- True literals, kept as a list and a table of the false ones.
use Rattle.std.specs.Prelude.{◌≡◌, ◌<◌, ◌≤◌, ◌↔◌, ℕ, Bool, true, false, List, length, All, Contains, slice_index_or}
use Rattle.dist_clause.specs.Formula.{Literal, IsClauseOver}
use Rattle.dist_base.specs.declared.TheConstants.{MAX_VARIABLES}
use Rattle.dist_derive.specs.OccurrencesPrivate.{code_of}
use Rattle.dist_derive.specs.Propagation.{IsFalse, IsUnset, AllFalse, IsUnit}
use Rattle.dist_derive.specs.declared.true_literals.Truth.{Truth}
use Rattle.dist_derive.specs.declared.true_literals.Truth.TheVariants.{True, False, Unset}
use Rattle.dist_derive.specs.declared.true_literals.Outcome.{Outcome}
use Rattle.dist_derive.specs.declared.true_literals.Outcome.TheVariants.{Conflict, Unit as UnitClause, Open}

-- true literals over the variables from 1 to `variables`, in the order in which they became true
pub record LiteralList : Type 0 where
  pub variables : ℕ
  pub literals : List Literal

-- at the code of each literal stands whether it is false; there is room for all variables
pub record AreFalses (variables : ℕ) (literals : List Literal) (falses : List Bool) (capacity : ℕ) : Type 0 where
  pub told : (l : Literal) → 1 ≤ l.variable → l.variable ≤ variables
      → (code_of l < length falses) × ((slice_index_or falses (code_of l) false ≡ true) ↔ IsFalse literals l)
  pub over : IsClauseOver variables literals
  pub stated : All (λ l. l.variable ≤ MAX_VARIABLES) literals
  pub room : variables ≤ capacity

-- what a literal is under the true ones
abbrev pub HasTruth : List Literal → Literal → Truth → Type 0
HasTruth trues l True = Contains trues l × (¬ IsFalse trues l)
HasTruth trues l False = (¬ Contains trues l) × IsFalse trues l
HasTruth trues l Unset = IsUnset trues l

-- what a clause is under the true literals
abbrev pub HasOutcome : List Literal → List Literal → Outcome → Type 0
HasOutcome trues clause Conflict = AllFalse trues clause
HasOutcome trues clause (UnitClause l) = IsUnit trues clause l
HasOutcome trues clause Open = (¬ AllFalse trues clause) × ((l : Literal) → ¬ IsUnit trues clause l)
