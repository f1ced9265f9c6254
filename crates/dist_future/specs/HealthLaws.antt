-- What it means that an assignment is healthy.
use Rattle.std.specs.Prelude.{Bool, List}
use Rattle.dist_base.specs.Least.{IsNoPair}
use Rattle.dist_future.specs.FutureHealth.{AreNoFuture, IsFutureHealth}
use Rattle.dist_future.specs.Outdated.{IsInstallationOf}
use Rattle.dist_space.specs.Space.{SpaceView}
use Rattle.dist_future.specs.SpaceLaws.{future_under, installation_under}
use Rattle.dist_future.specs.declared.health_kind.FutureHealth.TheVariants.{Healthy}

-- an assignment without fault
abbrev pub IsHealthyIn : SpaceView → List Bool → Type 0
IsHealthyIn s values = IsFutureHealth s values Healthy

-- The assignment stands for a future, and the installation that it stands for is a healthy one of that.
pub record StandsForHealthy (s : SpaceView) (values : List Bool) : Type 0 where
  pub stands : IsNoPair (AreNoFuture s values)
  pub healthy : IsInstallationOf s.essential s.repository (future_under s values) (installation_under s values)
