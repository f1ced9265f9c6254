-- How true literals grow under the clauses, and which clauses are still to be looked at.
use Rattle.std.specs.Prelude.{◌≡◌, ◌⊎◌, ℕ, ◌<◌, ◌≤◌, List, length, take, All, Contains, slice_index_or}
use Rattle.dist_clause.specs.Formula.{Literal, negation}
use Rattle.dist_clause.specs.ClauseList.{clause_at}
use Rattle.dist_derive.specs.ContainmentPrivate.{ContainsAll}
use Rattle.dist_derive.specs.Propagation.{AllFalse, IsPropagated}
use Rattle.dist_derive.specs.TrueLiterals.{LiteralList, HasOutcome}
use Rattle.dist_derive.specs.OccurrencesPrivate.{OccurrenceLists}
use Rattle.dist_derive.specs.declared.true_literals.Outcome.TheVariants.{Open}
use Rattle.dist_derive.specs.declared.propagation.Sweep.{Sweep}
use Rattle.dist_derive.specs.declared.propagation.Sweep.TheVariants.{Conflict, Grown, Settled}

-- true literals that contain the old ones and are closed under propagation contain the new ones
abbrev pub IsForced : List (List Literal) → List Literal → List Literal → Type 0
IsForced clauses old new = (trues : List Literal) → ContainsAll trues old → All (IsPropagated trues) clauses
    → ContainsAll trues new

-- true literals that contain the old ones and are closed under propagation make some clause false
abbrev pub IsRefuted : List (List Literal) → List Literal → Type 0
IsRefuted clauses old = (trues : List Literal) → ContainsAll trues old → All (IsPropagated trues) clauses
    → ¬ All (λ clause. ¬ AllFalse trues clause) clauses

-- no clause is false or unit
abbrev pub AllOpen : List Literal → List (List Literal) → Type 0
AllOpen trues clauses = All (λ clause. HasOutcome trues clause Open) clauses

-- a literal of the clause is false by a true literal at a place from `first` on
pub record IsFalseFrom (trues : List Literal) (first : ℕ) (clause : List Literal) : Type 0 where
  pub false_one : Literal
  pub member : Contains clause false_one
  pub place : ℕ
  pub from_first : first ≤ place
  pub within : place < length trues
  pub there : slice_index_or trues place false_one ≡ negation false_one

-- Where the true literals before the place `done` are taken: the clause is not false or unit, or it is looked at again
-- when a later one is taken.
abbrev pub Waits : List Literal → ℕ → List Literal → Type 0
Waits trues done clause = HasOutcome trues clause Open ⊎ IsFalseFrom trues done clause

-- the clauses in the index with numbers up to `last` wait
abbrev pub AllWait : OccurrenceLists → List (List Literal) → ℕ → List Literal → ℕ → Type 0
AllWait index clauses last trues done = (number : ℕ) → 1 ≤ number → number ≤ index.covered → number ≤ last
    → Waits trues done (clause_at clauses number)

-- true literals have grown by what the clauses force, one unset literal after another, so that clauses go on waiting
pub record Propagates (clauses : List (List Literal)) (old new : LiteralList) : Type 0 where
  pub same_variables : new.variables ≡ old.variables
  pub kept : ContainsAll new.literals old.literals
  pub forced : IsForced clauses old.literals new.literals
  pub longer : length old.literals ≤ length new.literals
  pub front : take (length old.literals) new.literals ≡ old.literals
  pub waiting : (done : ℕ) (clause : List Literal) → done ≤ length old.literals → Waits old.literals done clause
      → Waits new.literals done clause

-- what one walk over the clauses with numbers above `first` leaves
abbrev pub Sweeps : List (List Literal) → ℕ → LiteralList → LiteralList → Sweep → Type 0
Sweeps clauses first old new Conflict = IsRefuted clauses old.literals
Sweeps clauses first old new Grown = (length old.literals < length new.literals)
    × (length new.literals ≤ new.variables)
Sweeps clauses first old new Settled = (new ≡ old) × ((number : ℕ) → first < number → number ≤ length clauses
    → HasOutcome new.literals (clause_at clauses number) Open)
