-- Where the versions of a cluster, or of a new name, are cut: at the versions that the repository's atoms tell apart.
use Rattle.std.specs.Prelude.{◌≡◌, ◌≢◌, ℕ, List, [], ◌∷◌, All, Any}
use Rattle.std.specs.Cmp.Lexicographic.{slice_cmp}
use Rattle.std.specs.Ordering.{nat_cmp}
use Rattle.std.specs.declared.cmp.Ordering.TheVariants.{Less, Equal}
use Rattle.dist_version.specs.Order.{version_cmp, IsBelow}
use Rattle.dist_repo.specs.PackageList.{PackageList, IsPackageAnd}
use Rattle.dist_classes.specs.Atoms.{IsBoundOn}
use Rattle.dist_classes.specs.NewVersion.{IsMovedName}

-- a name that a new version of a member has at its own version
abbrev pub IsNameOfCluster : PackageList → List ℕ → List ℕ → Type 0
IsNameOfCluster r members name = Any (λ number. IsPackageAnd r.packages number (λ p. IsMovedName r.architecture p name))
    members

-- a version above the top that an atom on such a name has in its bound
abbrev pub IsClusterCut : PackageList → (members top : List ℕ) → List ℕ → Type 0
IsClusterCut r members top version = IsBelow top version × IsBoundOn r (IsNameOfCluster r members) version

-- a version that an atom on the name has in its bound
abbrev pub IsNameCut : PackageList → (name : List ℕ) → List ℕ → Type 0
IsNameCut r name version = IsBoundOn r (λ other. other ≡ name) version

-- the versions rise, and the first is above `low`
abbrev pub RisesFrom : List ℕ → List (List ℕ) → Type 0
RisesFrom low [] = Unit {0}
RisesFrom low (v ∷ versions) = IsBelow low v × RisesFrom v versions

-- each version of the list is below the next one
abbrev pub Rises : List (List ℕ) → Type 0
Rises [] = Unit {0}
Rises (v ∷ versions) = RisesFrom v versions

-- a text of the set that is least in bytes among the texts of equal versions
abbrev pub IsLeastText : (List ℕ → Type 0) → List ℕ → Type 0
IsLeastText Has text = Has text × ((other : List ℕ) → Has other → version_cmp other text ≡ Equal
    → slice_cmp nat_cmp other text ≢ Less)

-- The cuts of a set of version texts rise, each is one of them in its least text, and each of them is equal to a cut.
pub record AreCuts (Has : List ℕ → Type 0) (cuts : List (List ℕ)) : Type 0 where
  pub rising : Rises cuts
  pub least : All (IsLeastText Has) cuts
  pub every : (text : List ℕ) → Has text → Any (λ cut. version_cmp text cut ≡ Equal) cuts
