-- What `steps PACKAGES LATER` comes to.
use Rattle.std.specs.Prelude.{◌≡◌, ◌⊎◌, ℕ, false, List, Option, Some, slice_get}
use Rattle.dist_outside.specs.Files.{Files}
use Rattle.dist_outside.specs.declared.limits.Limits.{Limits}
use Rattle.dist_repo.specs.Order.{IsLatestOf}
use Rattle.dist_repo.specs.PackageList.{PackageList}
use Rattle.dist_repo.specs.declared.package.Package.{Package}
use Rattle.dist_space.specs.Space.{SpaceView}
use Rattle.dist_future.specs.Future.{IsFuture}
use Rattle.dist_archive.specs.Reach.{AreTaken, IsFirstMisfit, IsPlan}
use Rattle.dist_archive.specs.Refusals.{IsOfOtherArchitecture}
use Rattle.dist_archive.specs.Steps.{IsReached, Lead}
use Rattle.dist_archive.specs.declared.step.Step.{Step as ArchiveStep}
use Rattle.dist_history.specs.PlanText.{misfit_text, plan_text}
use Rattle.dist_commands.specs.PackagesStage.{PackagesStage}
use Rattle.dist_commands.specs.SpaceStage.{SpaceStage}
use Rattle.dist_commands.specs.Stages.{Ending, Goes, Then, answered}
use Rattle.dist_commands.specs.declared.status.Status.TheVariants.{Done, NotAFuture}

-- the newest versions of a Packages file
abbrev pub IsNewestIn : Option Files → Limits → (name : List ℕ) → (newest : PackageList) → Type 0
IsNewestIn files limits name newest =
    (file : PackageList) × PackagesStage files limits name (Goes file) × IsLatestOf file newest

-- ---- the later archive

-- A later archive is for the same architecture, or for none, and its packages are a future.
abbrev pub IsFutureArchive : (r later : PackageList) → Type 0
IsFutureArchive r later = (¬ IsOfOtherArchitecture r later) × IsFuture r later.packages

-- A plan leads to the later archive, each of its steps is taken where it comes, and it is told.
pub record TellsPlan (files : Option Files) (space : SpaceView) (later : PackageList) (ending : Ending) : Type 0 where
  pub is_future : IsFutureArchive space.repository later
  pub steps : List ArchiveStep
  pub is_plan : IsPlan space later.packages steps
  pub leads : Lead space steps space.repository.packages later.packages
  pub taken : AreTaken space steps space.repository.packages later.packages
  pub is : ending ≡ answered files Done (plan_text space steps)

-- At which package a later archive is kept from being a future: at the first one, where it is for another architecture;
-- else at the first that does not fit, and then no list of steps leads to it.
abbrev pub IsKeptAt : SpaceView → (later : PackageList) → (number : ℕ) → Type 0
IsKeptAt space later number = (IsOfOtherArchitecture space.repository later × (number ≡ 0))
    ⊎ ((¬ IsOfOtherArchitecture space.repository later) × IsFirstMisfit space.repository later.packages number
    × (¬ IsReached space later.packages))

-- The later archive is no future, which is told at a package.
pub record TellsMisfit (files : Option Files) (space : SpaceView) (later : PackageList) (ending : Ending) : Type 0 where
  pub is_no_future : ¬ IsFutureArchive space.repository later
  pub number : ℕ
  pub misfit : Package
  pub kept : IsKeptAt space later number
  pub is_misfit : slice_get later.packages number ≡ Some misfit
  pub is : ending ≡ answered files NotAFuture (misfit_text misfit)

-- one of the two, for the newest versions of LATER
pub record TellsLater (files : Option Files) (space : SpaceView) (l : PackageList) (ending : Ending) : Type 0 where
  pub later : PackageList
  pub is_newest : IsLatestOf l later
  pub tells : TellsPlan files space later ending ⊎ TellsMisfit files space later ending

-- ---- the stages

-- PACKAGES is read and taken apart, then its space is made at mode plain.
abbrev pub SpaceStages : Option Files → Limits → (packages : List ℕ) → (SpaceView → Ending → Type 0) → Ending → Type 0
SpaceStages files limits packages Last =
    Then (PackagesStage files limits packages) (λ r.
    Then (SpaceStage files limits false r) Last)

-- After these LATER is read and taken apart. The first stage that is refused decides.
abbrev pub StepsStages : Option Files → Limits → (packages later : List ℕ)
    → (SpaceView → PackageList → Ending → Type 0) → Ending → Type 0
StepsStages files limits packages later Last = SpaceStages files limits packages (λ space.
    Then (PackagesStage files limits later) (Last space))
