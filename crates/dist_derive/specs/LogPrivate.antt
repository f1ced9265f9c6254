-- What a log keeps beside its clauses: an index of them, and what a test has left.
use Rattle.std.specs.Prelude.{◌≡◌}
use Rattle.dist_clause.specs.ClauseList.{ClauseList}
use Rattle.dist_derive.specs.ClauseLog.{joined}
use Rattle.dist_derive.specs.OccurrencesPrivate.{OccurrenceLists, IsIndexOf}
use Rattle.dist_derive.specs.FarPrivate.{FarView, IsFarIfMade}
use Rattle.dist_derive.specs.WatchesPrivate.{WatchingState, IsStandingIfMade}

-- input clauses and lines are over the same variables, and the index is one of both
pub record IsIndexed (inputs lines : ClauseList) (index : OccurrenceLists) : Type 0 where
  pub same_variables : lines.variables ≡ inputs.variables
  pub is_index : IsIndexOf index (joined inputs lines).clauses

-- the index, and where there is anything what the last test has left and what lies far, are those of the clauses
pub record IsKept (inputs lines : ClauseList) (index : OccurrenceLists) (watching : WatchingState) (far : FarView) :
    Type 0 where
  pub indexed : IsIndexed inputs lines index
  pub standing : IsStandingIfMade (joined inputs lines).clauses inputs.variables watching
  pub is_far : IsFarIfMade inputs.clauses inputs.variables far
