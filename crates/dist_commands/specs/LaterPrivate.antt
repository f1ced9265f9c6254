-- What is known of PACKAGES and LATER on the way to the answer of `steps`. No public clause cites it.
use Rattle.std.specs.Prelude.{◌≡◌, ◌⊎◌, ◌<◌, ℕ, Bool, IsSome, List, Option, false, length}
use Rattle.dist_outside.specs.Files.{Files}
use Rattle.dist_outside.specs.declared.limits.Limits.{Limits}
use Rattle.dist_outside.specs.declared.trouble.What.TheVariants.{Variables}
use Rattle.dist_repo.specs.PackageList.{PackageList}
use Rattle.dist_space.specs.Space.{SpaceView}
use Rattle.dist_space.specs.SpaceOf.{HasMoreVariables}
use Rattle.dist_commands.specs.PackagesStage.{PackagesStage}
use Rattle.dist_commands.specs.Stages.{Goes, answered}
use Rattle.dist_commands.specs.SpaceStage.{SpaceStage}
use Rattle.dist_commands.specs.Steps.{TellsMisfit, TellsPlan}
use Rattle.dist_commands.specs.declared.refusal.Refusal.{Refusal}
use Rattle.dist_commands.specs.declared.refusal.Refusal.TheVariants.{NoMemory, TooLarge}
use Rattle.dist_commands.specs.declared.status.Status.{Status}

-- the space of a file that was read, which keeps its number of variables
abbrev pub IsSpaceKept : Option Files → Limits → (packages : List ℕ) → SpaceView → Type 0
IsSpaceKept files limits packages space = (r : PackageList) × PackagesStage files limits packages (Goes r)
    × SpaceStage files limits false r (Goes space)

-- why no space of some packages was made
abbrev pub HasNoSpace : (newest : PackageList) → (essential : Bool) → (variables : ℕ) → Refusal → Type 0
HasNoSpace newest essential variables refusal =
    (refusal ≡ NoMemory) ⊎ ((refusal ≡ TooLarge Variables) × HasMoreVariables newest essential variables)

-- an archive that is for an architecture has a package
abbrev pub HasSome : (later : PackageList) → Type 0
HasSome later = IsSome later.architecture → 0 < length later.packages

-- what is told of a later archive, whatever the files: a plan, or a package that keeps it from being a future
abbrev pub IsLaterTold : SpaceView → (later : PackageList) → Status → (text : List ℕ) → Type 0
IsLaterTold space later status text = (files : Option Files) → TellsPlan files space later (answered files status text)
    ⊎ TellsMisfit files space later (answered files status text)
