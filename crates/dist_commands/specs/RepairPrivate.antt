-- What finding a package and repairing it comes to. No public clause cites it.
use Rattle.std.specs.Prelude.{◌≡◌, ◌⊎◌, ℕ, List, Option}
use Rattle.dist_outside.specs.DeskView.{DeskView}
use Rattle.dist_outside.specs.Files.{Files}
use Rattle.dist_outside.specs.declared.limits.Limits.{Limits}
use Rattle.dist_list.specs.NamedPackage.{IsNamed}
use Rattle.dist_repo.specs.PackageList.{PackageList}
use Rattle.dist_repair.specs.RepairFiles.{PassesWith}
use Rattle.dist_space.specs.Space.{SpaceView}
use Rattle.dist_commands.specs.DuePrivate.{IsPartGivenUp, WritingStops}
use Rattle.dist_commands.specs.NamedStage.{NamedStage}
use Rattle.dist_commands.specs.Repair.{PlainSpaceStage, repair_writing}
use Rattle.dist_commands.specs.Stages.{Ending, Ends, Goes}
use Rattle.dist_commands.specs.WrittenFile.{IsWritten, NumbersStage}
use Rattle.dist_commands.specs.declared.refusal.Refusal.{Refusal}

-- the space was made, and the file was written
abbrev pub IsSpacedAndWritten : Option Files → Limits → (cert : List ℕ) → (most limit : ℕ) → PackageList → (number : ℕ)
    → Ending → Type 0
IsSpacedAndWritten files limits cert most limit newest number ending = (space : SpaceView)
    × PlainSpaceStage files limits newest (Goes space) × NumbersStage (PassesWith space most limits) files (Goes tt)
    × IsWritten (repair_writing limits most limit space number) files cert ending

-- no space was made, or the writing of the file was given up
abbrev pub SpacedStops : Limits → (cert : List ℕ) → (most limit : ℕ) → PackageList → (number : ℕ) → DeskView → DeskView
    → Refusal → Type 0
SpacedStops limits cert most limit newest number old new refusal =
    ((new ≡ old) × IsPartGivenUp (λ ending. PlainSpaceStage old.files limits newest (Ends ending)) old.files refusal)
    ⊎ ((space : SpaceView) × PlainSpaceStage old.files limits newest (Goes space)
    × WritingStops (repair_writing limits most limit space number) cert old new refusal)

-- the package was found before
abbrev pub IsNamedAndWritten : Option Files → Limits → (cert named : List ℕ) → (most limit : ℕ) → PackageList → Ending
    → Type 0
IsNamedAndWritten files limits cert named most limit newest ending = (number : ℕ) × IsNamed newest.packages named number
    × IsSpacedAndWritten files limits cert most limit newest number ending

-- or it was not found
abbrev pub NamedStops : Limits → (cert named : List ℕ) → (most limit : ℕ) → PackageList → DeskView → DeskView → Refusal
    → Type 0
NamedStops limits cert named most limit newest old new refusal =
    ((new ≡ old) × IsPartGivenUp (λ ending. NamedStage old.files newest.packages named (Ends ending)) old.files refusal)
    ⊎ ((number : ℕ) × IsNamed newest.packages named number
    × SpacedStops limits cert most limit newest number old new refusal)
