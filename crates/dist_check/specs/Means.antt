-- What the claims of a certificate say, in terms of healthy installations and futures. Pairs of a cluster and a class
-- are numbered as in the space of the futures.
use Rattle.std.specs.Prelude.{◌≡◌, ◌≢◌, ℕ, Bool, List, ◌++◌, All, Any, Contains, Some, length, slice_get}
use Rattle.dist_cluster.specs.Partition.{IsIn}
use Rattle.dist_repo.specs.Order.{IsLatestOf}
use Rattle.dist_repo.specs.PackageList.{PackageList}
use Rattle.dist_repo.specs.Strong.{IsInstallable, StronglyDepends}
use Rattle.dist_repo.specs.declared.package.Package.{Package}
use Rattle.dist_space.specs.Space.{IsMeaning, SpaceView}
use Rattle.dist_space.specs.SpaceOf.{IsSpaceOf}
use Rattle.dist_space.specs.declared.meaning.Meaning.TheVariants.{At}
use Rattle.dist_future.specs.Outdated.{Challenges, IsInstallableLater, IsOutdated}
use Rattle.dist_future.specs.Pairs.{IsOfPair}
use Rattle.dist_cert.specs.declared.records.CertKind.{CertKind}
use Rattle.dist_cert.specs.declared.records.CertKind.TheVariants as kinds
use Rattle.dist_cert.specs.declared.records.Claim.{Claim}
use Rattle.dist_cert.specs.declared.records.Claim.TheVariants.{Uninstallable, Unknown, Strong, Outdated, Alive}
use Rattle.dist_cert.specs.declared.records.Claim.TheVariants.{Challenged}
use Rattle.dist_subject.specs.Claims.{AreStrongClaimsOf}

-- ---- kind strong

-- Of each package but that of a number: what is said where it is listed, and where it is in neither list.
pub record TellsOthers (r : PackageList) (number : ℕ) (on undecided : List ℕ) (Depends : Package → Type 0) : Type 0
  where
    pub listed : (other : ℕ) (q : Package) → slice_get r.packages other ≡ Some q → Contains on other → Depends q
    pub unlisted : (other : ℕ) (q : Package) → slice_get r.packages other ≡ Some q → other ≢ number
        → (¬ Contains on other) → (¬ Contains undecided other) → ¬ Depends q

-- The claim on package p, which has this number, says: it is not installable; or it is installable, it strongly depends
-- on each package of the first list, and on no other one that is in neither list; or nothing.
abbrev pub SaysStrong : Bool → PackageList → ℕ → Package → Claim → Type 0
SaysStrong essential r number p Uninstallable = ¬ IsInstallable essential r p
SaysStrong essential r number p Unknown = Unit {0}
SaysStrong essential r number p (Strong on undecided) = IsInstallable essential r p
    × TellsOthers r number on undecided (StronglyDepends essential r p)
SaysStrong essential r number p claim = ⊥

-- Each claim says what is true of its package, at mode essential or plain.
pub record MeansStrong (essential : Bool) (r : PackageList) (made : List Claim) : Type 0 where
  pub are_claims : AreStrongClaimsOf (length r.packages) made
  pub each : (number : ℕ) (p : Package) (claim : Claim) → slice_get r.packages number ≡ Some p
      → slice_get made number ≡ Some claim → SaysStrong essential r number p claim

-- ---- kind outdated

-- The claim on package p says: it is outdated; or it is installable in some future, and so it is not; or nothing.
abbrev pub SaysOutdated : Bool → PackageList → Package → Claim → Type 0
SaysOutdated essential r p Outdated = IsOutdated essential r p
SaysOutdated essential r p Alive = IsInstallableLater essential r p
SaysOutdated essential r p Unknown = Unit {0}
SaysOutdated essential r p claim = ⊥

-- There is a claim for each package, in order, and it says what is true of it.
pub record MeansOutdated (essential : Bool) (r : PackageList) (made : List Claim) : Type 0 where
  pub one_each : length made ≡ length r.packages
  pub each : (number : ℕ) (p : Package) (claim : Claim) → slice_get r.packages number ≡ Some p
      → slice_get made number ≡ Some claim → SaysOutdated essential r p claim

-- ---- kind challenged

-- a class of a cluster that has not got the package of a number
abbrev pub IsPairBeside : SpaceView → ℕ → ℕ × ℕ → Type 0
IsPairBeside s number pair = IsMeaning s (At pair.0 pair.1) × (¬ IsIn s.clusters.members pair.0 number)

-- q is a package of the cluster of some listed pair, and the version is one of that pair's class
abbrev pub IsOfListed : SpaceView → List (ℕ × ℕ) → (q : Package) → (version : List ℕ) → Type 0
IsOfListed s listed q version = Any (λ pair. IsOfPair s pair.0 pair.1 q version) listed

-- Of each class of a cluster that has not got package p: each version of it challenges p where the pair is listed, and
-- none does where it is in neither list. What challenges p at all is of a class that is listed or undecided.
pub record TellsPairs (s : SpaceView) (number : ℕ) (p : Package) (by undecided : List (ℕ × ℕ)) : Type 0 where
  pub pairs : All (IsPairBeside s number) (by ++ undecided)
  pub listed : (cluster class : ℕ) (q : Package) (version : List ℕ) → IsOfPair s cluster class q version
      → Contains by (cluster, class) → Challenges s.essential s.repository q version p
  pub unlisted : (cluster class : ℕ) (q : Package) (version : List ℕ) → IsOfPair s cluster class q version
      → (¬ IsIn s.clusters.members cluster number) → (¬ Contains by (cluster, class))
      → (¬ Contains undecided (cluster, class)) → ¬ Challenges s.essential s.repository q version p
  pub others : (q : Package) (version : List ℕ) → Challenges s.essential s.repository q version p
      → IsOfListed s (by ++ undecided) q version

-- The claim on package p says: it is not installable; or it is installable, and which versions challenge it; or
-- nothing.
abbrev pub SaysChallenged : SpaceView → ℕ → Package → Claim → Type 0
SaysChallenged s number p Uninstallable = ¬ IsInstallable s.essential s.repository p
SaysChallenged s number p Unknown = Unit {0}
SaysChallenged s number p (Challenged by undecided) = IsInstallable s.essential s.repository p
    × TellsPairs s number p by undecided
SaysChallenged s number p claim = ⊥

-- There is a claim for each package, in order, and it says what is true of it. Clusters and classes are numbered as in
-- the space.
pub record MeansChallenged (s : SpaceView) (made : List Claim) : Type 0 where
  pub one_each : length made ≡ length s.repository.packages
  pub each : (number : ℕ) (p : Package) (claim : Claim) → slice_get s.repository.packages number ≡ Some p
      → slice_get made number ≡ Some claim → SaysChallenged s number p claim

-- ---- all kinds

-- What the claims of a kind say at a mode: kind strong over all packages, the others over the newest of each name.
abbrev pub Means : CertKind → Bool → PackageList → List Claim → Type 0
Means kinds.Strong essential r made = MeansStrong essential r made
Means kinds.Outdated essential r made = (latest : PackageList) × IsLatestOf r latest
    × MeansOutdated essential latest made
Means kinds.Challenged essential r made = (s : SpaceView) × IsLatestOf r s.repository
    × IsSpaceOf s.repository essential s × MeansChallenged s made
