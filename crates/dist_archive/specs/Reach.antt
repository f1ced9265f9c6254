-- Which later archives are reached from a repository by steps, and by which: what does not fit in a later archive, and
-- the plan that leads to one in which all fits.
use Rattle.std.specs.Prelude.{◌≡◌, ◌⊎◌, ◌↔◌, ℕ, zero, suc, ◌<◌, List, [], ◌∷◌, ◌++◌, None, Some, Any, Contains}
use Rattle.std.specs.Prelude.{IsSomeAnd, length, slice_get}
use Rattle.std.specs.declared.cmp.Ordering.TheVariants.{Equal}
use Rattle.dist_version.specs.Order.{version_cmp}
use Rattle.dist_repo.specs.Order.{IsInOrder}
use Rattle.dist_repo.specs.PackageList.{PackageList, IsPackageAnd}
use Rattle.dist_repo.specs.declared.package.Package.{Package}
use Rattle.dist_classes.specs.NewVersion.{IsNewOf, IsOfNewName}
use Rattle.dist_space.specs.Space.{SpaceView}
use Rattle.dist_future.specs.Future.{IsAboveCluster, IsProvided, IsTaken}
use Rattle.dist_archive.specs.Refusals.{Refuses}
use Rattle.dist_archive.specs.Steps.{HasExactly, IsClusterName, IsHeld, IsOfCluster, Lead, Makes}
use Rattle.dist_archive.specs.declared.step.Step.{Step}
use Rattle.dist_archive.specs.declared.step.Step.TheVariants.{Upload, Removal, NewName}
use Rattle.dist_archive.specs.declared.step.StepError.{StepError}

-- ---- what fits

-- a new version of a package of the repository, above the top of that one's cluster
abbrev pub IsLater : PackageList → (n : Package) → Type 0
IsLater r n = (q : Package) × Contains r.packages q × IsNewOf q n × IsAboveCluster r q n.version

-- the names of two packages are names of one cluster
abbrev pub AreOfOneCluster : PackageList → (m n : Package) → Type 0
AreOfOneCluster r m n = (c : Package) × Contains r.packages c × IsClusterName r c m.name × IsClusterName r c n.name

-- both are packages of the repository, or both are later, at equal versions
abbrev pub GoTogether : PackageList → (m n : Package) → Type 0
GoTogether r m n = (Contains r.packages m × Contains r.packages n)
    ⊎ (IsLater r m × IsLater r n × (version_cmp n.version m.version ≡ Equal))

-- The package of a number fits in a later archive. Under a name of the repository it is kept, the very package, or it
-- is later, and it goes together with each package of its cluster that stands before it. Under another name it is one
-- that comes as a new name.
pub record Fits (r : PackageList) (later : List Package) (number : ℕ) (n : Package) : Type 0 where
  pub own : IsTaken r n.name → Contains r.packages n ⊎ IsLater r n
  pub together : (k : ℕ) → k < number → IsPackageAnd later k (λ m. AreOfOneCluster r m n → GoTogether r m n)
  pub fresh : ¬ IsTaken r n.name → IsOfNewName n.name n × (¬ IsProvided r n.name)

-- the package of a number is the first one that does not fit
pub record IsFirstMisfit (r : PackageList) (later : List Package) (number : ℕ) : Type 0 where
  pub before : (k : ℕ) → k < number → IsPackageAnd later k (Fits r later k)
  pub here : IsPackageAnd later number (λ n. ¬ Fits r later number n)

-- ---- plans

-- one step for each of some things that has a property, in their order
abbrev pub AreStepsFor : {X : Type 0} → (P : X → Type 0) → (Does : X → Step → Type 0) → List X → List Step → Type 0
AreStepsFor P Does [] steps = steps ≡ []
AreStepsFor P Does (x ∷ xs) steps = ((¬ P x) × AreStepsFor P Does xs steps)
    ⊎ (P x × ((first : Step) × (rest : List Step) × (steps ≡ first ∷ rest) × Does x first × AreStepsFor P Does xs rest))

-- the later archive has a new version of a package of c's cluster
abbrev pub HasLater : PackageList → (later : List Package) → (c : Package) → Type 0
HasLater r later c = Any (λ n. IsClusterName r c n.name × IsLater r n) later

-- The upload of c's cluster, which has a number. It brings all that the later archive has of the names of the cluster,
-- in the order of names and versions, at the version of the first package that it brings, for no architecture. So the
-- later archive settles the upload: in order there is one list of what it brings, and one package is first.
pub record IsUploadOf (r : PackageList) (later : List Package) (cluster : ℕ) (c : Package) (step : Step) : Type 0 where
  pub block : PackageList
  pub first : Package
  pub is : step ≡ Upload cluster first.version block
  pub architecture : block.architecture ≡ None
  pub is_first : slice_get block.packages 0 ≡ Some first
  pub brings : (n : Package) → Contains block.packages n ↔ (Contains later n × IsClusterName r c n.name)
  pub in_order : IsInOrder block.packages

-- a removal for each of some members of the repository whose name the later archive does not have
abbrev pub AreRemovals : PackageList → (later : List Package) → (members : List ℕ) → List Step → Type 0
AreRemovals r later members steps = AreStepsFor (λ m. IsPackageAnd r.packages m (λ q. ¬ IsHeld later q.name))
    (λ m step. IsPackageAnd r.packages m (λ q. step ≡ Removal q.name)) members steps

-- for a cluster its upload, where the later archive has a new version of it; else the removals of missing members
abbrev pub IsPart : SpaceView → (later : List Package) → (cluster : ℕ) → List Step → Type 0
IsPart s later cluster steps = (c : Package) × IsOfCluster s cluster c
    × ((HasLater s.repository later c
    × ((step : Step) × (steps ≡ step ∷ []) × IsUploadOf s.repository later cluster c step))
    ⊎ ((¬ HasLater s.repository later c)
    × IsSomeAnd (slice_get s.clusters.members cluster) (λ members. AreRemovals s.repository later members steps)))

-- the steps for so many first clusters, one cluster after another
abbrev pub AreParts : SpaceView → (later : List Package) → (clusters : ℕ) → List Step → Type 0
AreParts s later zero steps = steps ≡ []
AreParts s later (suc cluster) steps = (before : List Step) × (part : List Step) × (steps ≡ before ++ part)
    × AreParts s later cluster before × IsPart s later cluster part

-- for each package of a name that is none of the repository's one step that brings it
abbrev pub AreNewNames : PackageList → (packages : List Package) → List Step → Type 0
AreNewNames r packages steps = AreStepsFor (λ n. ¬ IsTaken r n.name)
    (λ n step. step ≡ NewName (record { architecture = None; packages = n ∷ [] })) packages steps

-- The plan of a later archive: the steps for all clusters, and then those for new names.
pub record IsPlan (s : SpaceView) (later : List Package) (steps : List Step) : Type 0 where
  pub parts : List Step
  pub names : List Step
  pub whole : steps ≡ parts ++ names
  pub are_parts : AreParts s later (length s.clusters.members) parts
  pub are_names : AreNewNames s.repository later names

-- An archive takes these steps one after another, none of them is refused where it comes, and it ends with exactly
-- these packages.
abbrev pub AreTaken : SpaceView → List Step → (old new : List Package) → Type 0
AreTaken s [] old new = HasExactly new (Contains old)
AreTaken s (step ∷ steps) old new = ((error : StepError) → ¬ Refuses s old step error)
    × ((next : List Package) → Makes s step old next → AreTaken s steps next new)

-- Steps are made, one after another: they lead from one archive to another one, and none of them is refused where it
-- comes.
pub record AreMade (s : SpaceView) (steps : List Step) (old new : List Package) : Type 0 where
  pub lead : Lead s steps old new
  pub taken : AreTaken s steps old new
