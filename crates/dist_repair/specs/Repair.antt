-- Repairs: how many source clusters must move so that a package can be installed.
use Rattle.std.specs.Prelude.{◌≡◌, ◌↔◌, ◌<◌, ◌≤◌, ℕ, true, Bool, List, Contains, length}
use Rattle.std.specs.List.Sorted.{IsStrictlyIncreasing}
use Rattle.dist_repo.specs.declared.package.Package.{Package}
use Rattle.dist_future.specs.Future.{IsFuture}
use Rattle.dist_future.specs.Moved.{AreHeld, IsMoved}
use Rattle.dist_future.specs.Outdated.{IsInstallableIn}
use Rattle.dist_future.specs.SpaceLaws.{holds_under}
use Rattle.dist_space.specs.Space.{SpaceView, cluster_classes, example_at}
use Rattle.dist_space.specs.declared.meaning.Meaning.TheVariants.{At}

-- the numbers of the clusters that have moved in a future, rising
pub record AreMoved (s : SpaceView) (future : List Package) (numbers : List ℕ) : Type 0 where
  pub rising : IsStrictlyIncreasing numbers
  pub exact : (c : ℕ) → Contains numbers c ↔ ((c < length s.clusters.members) × IsMoved s future c)

-- Some future in which these clusters have moved, and no others, has a healthy installation that holds the package
-- itself.
pub record IsInstallableByMoving (s : SpaceView) (p : Package) (numbers : List ℕ) : Type 0 where
  pub future : List Package
  pub is_future : IsFuture s.repository future
  pub moved : AreMoved s future numbers
  pub installable : IsInstallableIn s.essential s.repository future p

-- The same, where each class that is true under an assignment is the one its cluster has moved to: the future has the
-- cluster's packages at the example of that class.
pub record IsInstalledUnder (s : SpaceView) (values : List Bool) (p : Package) (numbers : List ℕ) : Type 0 where
  pub by : IsInstallableByMoving s p numbers
  pub held : (c k : ℕ) → k < length (cluster_classes s c) → holds_under s values (At c k) ≡ true
      → AreHeld s by.future c (example_at (cluster_classes s c) k)

-- A number of clusters is possible for a package: it can be installed where exactly so many have moved.
abbrev pub IsPossible : SpaceView → Package → ℕ → Type 0
IsPossible s p number = (numbers : List ℕ) × IsInstallableByMoving s p numbers × (length numbers ≡ number)

-- some number up to this one is possible
abbrev pub IsPossibleWithin : SpaceView → Package → ℕ → Type 0
IsPossibleWithin s p most = (numbers : List ℕ) × IsInstallableByMoving s p numbers × (length numbers ≤ most)
