-- What a search keeps.
use Rattle.std.specs.Prelude.{◌≡◌, ◌+◌, ◌*◌, ◌≤◌, ℕ, List, length}
use Rattle.dist_base.specs.declared.TheConstants.{MAX_VARIABLES}
use Rattle.dist_search.specs.Trail.{TrailState}
use Rattle.dist_search.specs.Learned.{LearnedClause}

-- the room is over the same variables
pub record IsSearchKept (trail : TrailState) (table : List ℕ) (taught : LearnedClause) : Type 0 where
  pub stated : trail.variables ≤ MAX_VARIABLES
  pub singles : length table ≡ 2 * trail.variables + 2
  pub learned : taught.variables ≡ trail.variables
