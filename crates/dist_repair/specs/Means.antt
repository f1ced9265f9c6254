-- What a repair says of how many clusters must move for a package.
use Rattle.std.specs.Prelude.{◌≡◌, ℕ, ◌<◌, Bool, false, List, IfSome, IsSome, length}
use Rattle.dist_clause.specs.Formula.{value_of}
use Rattle.dist_repo.specs.declared.package.Package.{Package}
use Rattle.dist_space.specs.Space.{SpaceView}
use Rattle.dist_repair.specs.Answered.{clusters_under}
use Rattle.dist_repair.specs.Repair.{IsInstalledUnder, IsPossible}
use Rattle.dist_repair.specs.declared.repair.Repair.{Repair}
use Rattle.dist_repair.specs.declared.repair.Repair.TheVariants.{Outdated, Least, AtLeast}

-- no smaller number is possible
abbrev pub IsBound : SpaceView → Package → ℕ → Type 0
IsBound s p lower = (number : ℕ) → number < lower → ¬ IsPossible s p number

-- The number is possible: the clusters with a class that is true under the assignment are so many, and the package can
-- be installed where exactly these have moved, each to the example of that class.
pub record IsPlan (s : SpaceView) (p : Package) (number : ℕ) (values : List Bool) : Type 0 where
  pub possible : IsPossible s p number
  pub count : number ≡ length (clusters_under s (value_of values))
  pub installable : IsInstalledUnder s values p (clusters_under s (value_of values))

-- No number is possible; or this one is, and no smaller one; or none below the lower bound is, and the upper bound is,
-- which is there where nothing is undecided.
abbrev pub Says : SpaceView → Package → Repair → Type 0
Says s p Outdated = (number : ℕ) → ¬ IsPossible s p number
Says s p (Least number values) = IsPlan s p number values × IsBound s p number
Says s p (AtLeast lower undecided upper) = IsBound s p lower
    × IfSome upper (λ one. IsPlan s p one.0 one.1) × (undecided ≡ false → IsSome upper)
