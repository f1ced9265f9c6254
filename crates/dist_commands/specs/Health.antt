-- What `health PACKAGES LIST` comes to.
use Rattle.std.specs.Prelude.{◌≡◌, ℕ, false, Bool, List, Option}
use Rattle.dist_outside.specs.Files.{Files}
use Rattle.dist_outside.specs.declared.limits.Limits.{Limits}
use Rattle.dist_repo.specs.PackageList.{PackageList}
use Rattle.dist_repo.specs.declared.package.Package.{Package}
use Rattle.dist_now.specs.Health.{IsHealth}
use Rattle.dist_now.specs.declared.kinds.Health.{Health}
use Rattle.dist_now.specs.declared.kinds.Health.TheVariants.{Healthy}
use Rattle.dist_list.specs.PackageSet.{NamesSet, IsBadAt}
use Rattle.dist_report.specs.HealthText.{IsHealthText}
use Rattle.dist_commands.specs.Stages.{Ending, Step, Ends, Goes, Then, answered, refused}
use Rattle.dist_commands.specs.TextStage.{TextStage}
use Rattle.dist_commands.specs.PackagesStage.{PackagesStage}
use Rattle.dist_commands.specs.declared.status.Status.{Status}
use Rattle.dist_commands.specs.declared.status.Status.TheVariants.{Done, NotHealthy}
use Rattle.dist_commands.specs.declared.refusal.Refusal.TheVariants.{BadList}

-- the set that LIST names, or its first bad line
abbrev pub ListStage : Option Files → List Package → (text : List ℕ) → Step (List Bool) → Type 0
ListStage files packages text (Goes members) = NamesSet packages text members
ListStage files packages text (Ends ending) = (line : ℕ) × IsBadAt packages text line
    × (ending ≡ refused files (BadList line))

-- the status that goes with a health
abbrev pub health_status : Health → Status
health_status Healthy = Done
health_status _ = NotHealthy

-- the line that tells the health of a set, and the status that goes with it
abbrev pub Tells : List Package → Health → Status → List ℕ → Type 0
Tells packages health status line = (status ≡ health_status health) × IsHealthText packages health line

-- the health of a set at mode plain, told in one line
pub record Judges (files : Option Files) (repository : PackageList) (members : List Bool) (ending : Ending) : Type 0
  where
    pub health : Health
    pub status : Status
    pub line : List ℕ
    pub is_health : IsHealth repository false members health
    pub tells : Tells repository.packages health status line
    pub is : ending ≡ answered files status line

-- LIST is read and taken apart.
abbrev pub ListStages : Option Files → Limits → PackageList → (list : List ℕ) → (List Bool → Ending → Type 0) → Ending
    → Type 0
ListStages files limits repository list Last =
    Then (TextStage files list limits.bytes) (λ names.
    Then (ListStage files repository.packages names) Last)

-- PACKAGES is read and taken apart first. The first stage that is refused decides.
abbrev pub HealthStages : Option Files → Limits → (packages list : List ℕ) → (PackageList → List Bool → Ending → Type 0)
    → Ending → Type 0
HealthStages files limits packages list Last =
    Then (PackagesStage files limits packages) (λ repository.
    ListStages files limits repository list (Last repository))
