-- Why an archive refuses a step: the first reason that holds, in the order in which they stand here.
use Rattle.std.specs.Prelude.{◌≡◌, ◌≢◌, ◌⊎◌, ℕ, ◌<◌, List, [], ◌∷◌, Some, IsSomeAnd, length}
use Rattle.std.specs.declared.cmp.Ordering.TheVariants.{Equal}
use Rattle.dist_version.specs.Order.{version_cmp}
use Rattle.dist_repo.specs.PackageList.{PackageList, IsPackageAnd}
use Rattle.dist_repo.specs.declared.package.Package.{Package}
use Rattle.dist_space.specs.Space.{SpaceView}
use Rattle.dist_future.specs.Future.{IsProvided, IsTaken}
use Rattle.dist_archive.specs.Steps.{IsAboveAll, IsClusterName, IsHeld, IsNewIn, IsOfCluster, IsUploaded}
use Rattle.dist_archive.specs.declared.step.Step.{Step}
use Rattle.dist_archive.specs.declared.step.Step.TheVariants.{Upload, Removal, NewName}
use Rattle.dist_archive.specs.declared.step.StepError.{StepError}
use Rattle.dist_archive.specs.declared.step.StepError.TheVariants.{OtherArchitecture, NotAbove, NotMember, NotAtVersion}
use Rattle.dist_archive.specs.declared.step.StepError.TheVariants.{WrongProvides, NotHeld, NotOne, NameTaken}
use Rattle.dist_archive.specs.declared.step.StepError.TheVariants.{NameVirtual, HasProvides}

-- the architecture of a block is there, and is not the repository's
abbrev pub IsOfOtherArchitecture : PackageList → (block : PackageList) → Type 0
IsOfOtherArchitecture r block = IsSomeAnd block.architecture (λ name. r.architecture ≢ Some name)

-- ---- uploads

-- what is wrong with the package of a number in a block: its name is none of the cluster; or it is, but the version is
-- another one; or both are right, but the package is no new version
abbrev pub IsUploadFault : PackageList → (c : Package) → (version : List ℕ) → (number : ℕ) → Package → StepError
    → Type 0
IsUploadFault r c version number n (NotMember at) = (at ≡ number) × (¬ IsClusterName r c n.name)
IsUploadFault r c version number n (NotAtVersion at) = (at ≡ number) × IsClusterName r c n.name
    × (version_cmp n.version version ≢ Equal)
IsUploadFault r c version number n (WrongProvides at) = (at ≡ number) × IsClusterName r c n.name
    × (version_cmp n.version version ≡ Equal) × (¬ IsNewIn r c n)
IsUploadFault r c version number n error = ⊥

-- the first package of a block that is not uploaded so
pub record IsFirstFault (r : PackageList) (c : Package) (version : List ℕ) (packages : List Package) (error : StepError)
    : Type 0 where
  pub number : ℕ
  pub before : (k : ℕ) → k < number → IsPackageAnd packages k (IsUploaded r c version)
  pub here : IsPackageAnd packages number (λ n. IsUploadFault r c version number n error)

-- why an upload is refused: its block is for another architecture; else its version is not above all; else a package of
-- its block is no new version at this one
abbrev pub RefusesUpload : PackageList → (archive : List Package) → (c : Package) → (version : List ℕ)
    → (block : PackageList) → StepError → Type 0
RefusesUpload r archive c version block OtherArchitecture = IsOfOtherArchitecture r block
RefusesUpload r archive c version block NotAbove = (¬ IsOfOtherArchitecture r block)
    × (¬ IsAboveAll r archive c version)
RefusesUpload r archive c version block error = (¬ IsOfOtherArchitecture r block) × IsAboveAll r archive c version
    × IsFirstFault r c version block.packages error

-- ---- removals

-- why a removal is refused: no package of the name is held
abbrev pub RefusesRemoval : (archive : List Package) → (name : List ℕ) → StepError → Type 0
RefusesRemoval archive name NotHeld = ¬ IsHeld archive name
RefusesRemoval archive name error = ⊥

-- ---- new names

-- what is wrong with the one package of a block
abbrev pub IsNameFault : PackageList → (archive : List Package) → Package → StepError → Type 0
IsNameFault r archive p NameTaken = IsTaken r p.name ⊎ IsHeld archive p.name
IsNameFault r archive p NameVirtual = (¬ IsTaken r p.name) × (¬ IsHeld archive p.name) × IsProvided r p.name
IsNameFault r archive p HasProvides = (¬ IsTaken r p.name) × (¬ IsHeld archive p.name) × (¬ IsProvided r p.name)
    × (p.provides ≢ [])
IsNameFault r archive p error = ⊥

-- why a package of a new name is refused: the block is for another architecture; else it has not one package; else the
-- package is none that may come
abbrev pub RefusesName : PackageList → (archive : List Package) → (block : PackageList) → StepError → Type 0
RefusesName r archive block OtherArchitecture = IsOfOtherArchitecture r block
RefusesName r archive block NotOne = (¬ IsOfOtherArchitecture r block) × (length block.packages ≢ 1)
RefusesName r archive block error = (¬ IsOfOtherArchitecture r block)
    × ((p : Package) × (block.packages ≡ p ∷ []) × IsNameFault r archive p error)

-- ---- all steps

-- why a step is refused
abbrev pub Refuses : SpaceView → (archive : List Package) → Step → StepError → Type 0
Refuses s archive (Upload cluster version block) error =
    (c : Package) × IsOfCluster s cluster c × RefusesUpload s.repository archive c version block error
Refuses s archive (Removal name) error = RefusesRemoval archive name error
Refuses s archive (NewName block) error = RefusesName s.repository archive block error
