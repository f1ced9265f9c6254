-- What is kept of the group of a claim.
use Rattle.std.specs.Prelude.{◌≡◌, ◌==◌, ◌&&◌, ◌<◌, ◌≤◌, ℕ, Bool, true, false, List, All, AllPairs, Contains, filter}
use Rattle.std.specs.Prelude.{length, not, replicate}
use Rattle.std.specs.List.{range_with_len}
use Rattle.dist_clause.specs.Formula.{value_of}
use Rattle.dist_sweep.specs.Window.{WindowView, HasEach}

-- the package of the claim, what all installations of its group have, and the packages without which it was refuted, or
-- stayed undecided
pub record GroupView : Type 0 where
  pub claimed : ℕ
  pub variables : ℕ
  pub common : List Bool
  pub refuted : List Bool
  pub undecided : List Bool

-- the group of a package over so many variables, with its first installation
abbrev pub new_group : ℕ → ℕ → List Bool → GroupView
new_group p variables values = record {
  claimed = p;
  variables = variables;
  common = values;
  refuted = replicate variables false;
  undecided = replicate variables false;
}

-- another package is in all installations of the group and was not asked for
abbrev pub is_open : GroupView → ℕ → Bool
is_open group q = not (q == group.claimed) && value_of group.common q && not (value_of group.refuted q)
    && not (value_of group.undecided q)

-- A package that is in all installations of the claim and was not asked for.
pub record IsCandidate (w : WindowView) (group : GroupView) (q : ℕ) : Type 0 where
  pub from_one : 1 ≤ q
  pub upto : q ≤ group.variables
  pub opens : is_open group q ≡ true
  pub each : HasEach w group.claimed q

-- A package that stayed undecided and is in all installations of the claim.
pub record IsLeft (w : WindowView) (group : GroupView) (q : ℕ) : Type 0 where
  pub from_one : 1 ≤ q
  pub upto : q ≤ group.variables
  pub is_undecided : value_of group.undecided q ≡ true
  pub is_common : value_of group.common q ≡ true
  pub each : HasEach w group.claimed q

-- the packages up to n of this sort, rising
pub record AreLeftUpto (w : WindowView) (group : GroupView) (n : ℕ) (left : List ℕ) : Type 0 where
  pub rising : AllPairs (λ q r. q < r) left
  pub upto : All (λ q. q ≤ n) left
  pub each : All (IsLeft w group) left
  pub all : (q : ℕ) → q ≤ n → IsLeft w group q → Contains left q

abbrev pub AreLeft : WindowView → GroupView → List ℕ → Type 0
AreLeft w group left = AreLeftUpto w group group.variables left

-- of each of n variables: it is true where it is true in both
abbrev pub IsNarrowed : ℕ → List Bool → List Bool → List Bool → Type 0
IsNarrowed n old values new = (v : ℕ) → 1 ≤ v → v ≤ n → value_of new v ≡ (value_of old v && value_of values v)

abbrev pub HasNoCandidate : WindowView → GroupView → Type 0
HasNoCandidate w group = (q : ℕ) → ¬ IsCandidate w group q

-- how many packages are open
abbrev pub open_count : GroupView → ℕ
open_count group = length (filter (is_open group) (range_with_len 1 group.variables))
