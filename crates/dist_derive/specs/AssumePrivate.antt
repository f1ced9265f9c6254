-- How literals are assumed one after another.
use Rattle.std.specs.Prelude.{◌≡◌, ◌≤◌, ◌⊎◌, ℕ, Bool, true, false, List, [], ◌∷◌, ◌++◌, length, take, Contains}
use Rattle.std.specs.Prelude.{IsTrue}
use Rattle.dist_clause.specs.Formula.{Literal}
use Rattle.dist_derive.specs.ContainmentPrivate.{ContainsAll}
use Rattle.dist_derive.specs.Propagation.{IsFalse, IsUnset, IsConsistent}
use Rattle.dist_derive.specs.TrueLiterals.{LiteralList}
use Rattle.dist_derive.specs.SweepPrivate.{Waits}

-- a literal is made true, or is true already, or is false
abbrev pub Assumes : LiteralList → LiteralList → Literal → Bool → Type 0
Assumes old new l true = ((new ≡ old) × Contains old.literals l)
    ⊎ ((new ≡ record old { literals = old.literals ++ l ∷ [] }) × IsUnset old.literals l)
Assumes old new l false = (new ≡ old) × IsFalse old.literals l

-- literals are made true up to one that is false, so that clauses go on waiting
pub record AssumesAll (old new : LiteralList) (literals : List Literal) (all : Bool) : Type 0 where
  pub same_variables : new.variables ≡ old.variables
  pub kept : ContainsAll new.literals old.literals
  pub longer : length old.literals ≤ length new.literals
  pub front : take (length old.literals) new.literals ≡ old.literals
  pub waiting : (done : ℕ) (clause : List Literal) → done ≤ length old.literals → Waits old.literals done clause
      → Waits new.literals done clause
  pub least : (trues : List Literal) → ContainsAll trues old.literals → ContainsAll trues literals
      → ContainsAll trues new.literals
  pub assumed : IsTrue all → ContainsAll new.literals literals
  pub refused : all ≡ false → (trues : List Literal) → ContainsAll trues old.literals → ContainsAll trues literals
      → ¬ IsConsistent trues
