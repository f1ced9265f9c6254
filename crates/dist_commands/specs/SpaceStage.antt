-- The stage that makes the space of a Packages file.
use Rattle.std.specs.Prelude.{◌≡◌, ◌<◌, ◌≤◌, Bool, Option, length}
use Rattle.dist_outside.specs.Files.{Files}
use Rattle.dist_outside.specs.declared.limits.Limits.{Limits}
use Rattle.dist_outside.specs.declared.trouble.What.TheVariants.{Variables}
use Rattle.dist_repo.specs.Order.{IsLatestOf}
use Rattle.dist_repo.specs.PackageList.{PackageList}
use Rattle.dist_space.specs.Space.{SpaceView}
use Rattle.dist_space.specs.SpaceOf.{IsSpaceOf}
use Rattle.dist_subject.specs.Limited.{OfSpace}
use Rattle.dist_commands.specs.Stages.{Step, Goes, Ends, refused}
use Rattle.dist_commands.specs.declared.refusal.Refusal.TheVariants.{TooLarge}

-- the space of the newest versions of a file at a mode
abbrev pub IsSpaceOfFile : (essential : Bool) → PackageList → SpaceView → Type 0
IsSpaceOfFile essential r space = IsLatestOf r space.repository × IsSpaceOf space.repository essential space

-- It keeps its number of variables, or ends the run.
abbrev pub SpaceStage : Option Files → Limits → (essential : Bool) → PackageList → Step SpaceView → Type 0
SpaceStage files limits essential r (Goes space) = IsSpaceOfFile essential r space
    × (length space.meanings ≤ limits.variables)
SpaceStage files limits essential r (Ends ending) = OfSpace r essential (λ space.
    limits.variables < length space.meanings) × (ending ≡ refused files (TooLarge Variables))
