-- Room for work that is ready for the next call.
use Rattle.std.specs.Prelude.{◌≡◌, ℕ, List, []}
use Rattle.dist_derive.specs.VariableSet.{VariableList}
use Rattle.dist_derive.specs.TrueLiterals.{LiteralList}

-- no literal is true, the cone is empty, and no clause is known to be false
pub record IsReady (literals : LiteralList) (cone : VariableList) (conflicts : List ℕ)
    : Type 0 where
  pub no_literal : literals.literals ≡ []
  pub no_member : cone.members ≡ []
  pub no_conflict : conflicts ≡ []
  pub same_variables : cone.variables ≡ literals.variables
