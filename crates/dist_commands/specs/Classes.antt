-- What `classes PACKAGES` comes to.
use Rattle.std.specs.Prelude.{◌≡◌, ℕ, List, Option}
use Rattle.dist_outside.specs.Files.{Files}
use Rattle.dist_outside.specs.declared.limits.Limits.{Limits}
use Rattle.dist_repo.specs.Order.{IsLatestOf}
use Rattle.dist_repo.specs.PackageList.{PackageList}
use Rattle.dist_report.specs.ClassesReport.{IsClassesText}
use Rattle.dist_commands.specs.PackagesStage.{PackagesStage}
use Rattle.dist_commands.specs.Stages.{Ending, Then, answered}
use Rattle.dist_commands.specs.declared.status.Status.TheVariants.{Done}

-- the report of the classes of the newest versions
pub record TellsClasses (files : Option Files) (repository : PackageList) (ending : Ending) : Type 0 where
  pub newest : PackageList
  pub text : List ℕ
  pub is_newest : IsLatestOf repository newest
  pub is_text : IsClassesText newest text
  pub is : ending ≡ answered files Done text

-- PACKAGES is read and taken apart, and its newest versions are told of.
abbrev pub ClassesStages : Option Files → Limits → (packages : List ℕ) → (PackageList → Ending → Type 0) → Ending
    → Type 0
ClassesStages files limits packages Last = Then (PackagesStage files limits packages) Last
