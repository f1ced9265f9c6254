-- How a trail is kept.
use Rattle.std.specs.Prelude.{◌≡◌, ◌+◌, ◌<◌, ◌≤◌, ℕ, List, length, All, AllPairs, slice_index}
use Rattle.dist_base.specs.declared.TheConstants.{MAX_VARIABLES}
use Rattle.dist_derive.specs.TrueLiterals.{LiteralList}
use Rattle.dist_search.specs.Trail.{literal_at}

-- there is a reason for each literal, and its variable has its place; decisions stand in their order, among what was
-- taken; and there is room for the reasons and decisions of all variables
pub record IsTrailKept (trues : LiteralList) (numbers seats starts : List ℕ) (head capacity other_capacity : ℕ) :
    Type 0 where
  pub stated : trues.variables ≤ MAX_VARIABLES
  pub few : length trues.literals ≤ trues.variables
  pub reasons : length numbers ≡ length trues.literals
  pub room : length seats ≡ trues.variables + 1
  pub places : (k : ℕ) → k < length trues.literals → slice_index seats (literal_at trues.literals k).variable ≡ k
  pub rising : AllPairs (λ s t. s < t) starts
  pub decided : All (λ s. s < length trues.literals) starts
  pub taken : All (λ s. s ≤ head) starts
  pub to_end : head ≤ length trues.literals
  pub reason_room : trues.variables ≤ capacity
  pub start_room : trues.variables ≤ other_capacity
