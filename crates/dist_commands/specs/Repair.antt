-- What `repair PACKAGES CERT` comes to.
use Rattle.std.specs.Prelude.{◌≡◌, ◌≤◌, ℕ, false, List, Option, length}
use Rattle.dist_outside.specs.Files.{Files}
use Rattle.dist_outside.specs.declared.limits.Limits.{Limits}
use Rattle.dist_outside.specs.declared.trouble.What.TheVariants.{Variables}
use Rattle.dist_repo.specs.PackageList.{PackageList}
use Rattle.dist_space.specs.Space.{SpaceView}
use Rattle.dist_space.specs.SpaceOf.{HasMoreVariables, IsSpaceOf}
use Rattle.dist_inquiry.specs.Written.{IsCutText, IsFull, IsWholeText}
use Rattle.dist_repair.specs.RepairFiles.{PassesWith}
use Rattle.dist_repair.specs.Verdicts.{IsRepair}
use Rattle.dist_repair.specs.declared.repair.Repair.{Repair}
use Rattle.dist_repair_search.specs.SearchAnswers.{OfRepair, header_with}
use Rattle.dist_report.specs.RepairText.{repair_text}
use Rattle.dist_commands.specs.CheckRepair.{repaired_status}
use Rattle.dist_commands.specs.NamedStage.{NamedStage}
use Rattle.dist_commands.specs.PackagesStage.{PackagesStage}
use Rattle.dist_commands.specs.Stages.{Ending, Step, Goes, Ends, Then, refused}
use Rattle.dist_commands.specs.Steps.{IsNewestIn}
use Rattle.dist_commands.specs.WrittenFile.{IsGivenUp, NumbersStage, Writes, Writing}
use Rattle.dist_commands.specs.declared.refusal.Refusal.{Refusal}
use Rattle.dist_commands.specs.declared.refusal.Refusal.TheVariants.{TooLarge}

-- The file of a repair of the package of a number, with a counter up to the most: it is accepted with its answer, and
-- asks none but the questions of the search, each at most once. What is answered is told.
abbrev pub repair_writing : Limits → (most limit : ℕ) → SpaceView → (number : ℕ) → Writing Repair
repair_writing limits most limit s number = record {
  PassesFirst = PassesWith s most limits;
  IsWhole = λ repair text. IsRepair s limits text (header_with limit number most) repair
      × OfRepair s (header_with limit number most) limits (λ g course. IsWholeText g course text);
  IsFull = λ what text. OfRepair s (header_with limit number most) limits (λ g course. IsFull g course what text);
  IsCut = λ text. OfRepair s (header_with limit number most) limits (λ g course. IsCutText g course text);
  status = repaired_status;
  IsTold = λ repair out. out ≡ repair_text s number repair;
}

-- the end of the writing
abbrev pub Repairs : Option Files → Limits → (cert : List ℕ) → (most limit : ℕ) → SpaceView → (number : ℕ) → Ending
    → Type 0
Repairs files limits cert most limit s number ending =
    Writes (repair_writing limits most limit s number) files cert ending

-- the newest versions of PACKAGES
abbrev pub NewestStage : Option Files → Limits → (packages : List ℕ) → Step PackageList → Type 0
NewestStage files limits packages (Goes newest) = IsNewestIn files limits packages newest
NewestStage files limits packages (Ends ending) = PackagesStage files limits packages (Ends ending)

-- The space of packages at mode plain keeps its number of variables, or ends the run.
abbrev pub PlainSpaceStage : Option Files → Limits → (newest : PackageList) → Step SpaceView → Type 0
PlainSpaceStage files limits newest (Goes space) =
    IsSpaceOf newest false space × (length space.meanings ≤ limits.variables)
PlainSpaceStage files limits newest (Ends ending) =
    HasMoreVariables newest false limits.variables × (ending ≡ refused files (TooLarge Variables))

-- PACKAGES is read and taken apart, then the package is found among its newest versions, then their space is made, then
-- the clauses with a counter. The first stage that is refused decides.
abbrev pub RepairStages : Option Files → Limits → (packages named : List ℕ) → (most : ℕ)
    → (SpaceView → (number : ℕ) → Ending → Type 0) → Ending → Type 0
RepairStages files limits packages named most Last =
    Then (NewestStage files limits packages) (λ newest.
    Then (NamedStage files newest.packages named) (λ number.
    Then (PlainSpaceStage files limits newest) (λ space.
    Then (NumbersStage (PassesWith space most limits) files) (λ _.
    Last space number))))

-- what the stages before the writing gave: the newest versions, the number of a package, and the space
abbrev pub IsRepairReached : Option Files → Limits → (packages named : List ℕ) → PackageList × ℕ × SpaceView → Type 0
IsRepairReached files limits packages named at = IsNewestIn files limits packages at.0
    × NamedStage files at.0.packages named (Goes at.1) × PlainSpaceStage files limits at.0 (Goes at.2)

-- the writing was given up
abbrev pub IsRepairGivenUp : Option Files → Limits → (packages cert named : List ℕ) → (most limit : ℕ) → Refusal
    → Ending → Type 0
IsRepairGivenUp files limits packages cert named most limit = IsGivenUp (IsRepairReached files limits packages named)
    (λ at. repair_writing limits most limit at.2 at.1) files cert
