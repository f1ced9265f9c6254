-- What is said of steps while a plan is made. No public clause cites it.
use Rattle.std.specs.Prelude.{◌≡◌, ◌↔◌, ◌⊎◌, ℕ, ◌<◌, List, [], ◌∷◌, ◌++◌, All, Any, Contains, length}
use Rattle.std.specs.List.Sorted.{IsStrictlyIncreasing}
use Rattle.dist_repo.specs.Held.{Held, packages_of}
use Rattle.dist_repo.specs.PackageList.{PackageList, IsPackageAnd}
use Rattle.dist_repo.specs.declared.package.Package.{Package}
use Rattle.dist_archive.specs.declared.step.Step.{Step}

-- some steps were put behind the others
pub record ArePushed (old new : List Step) (Pushed : List Step → Type 0) : Type 0 where
  pub more : List Step
  pub whole : new ≡ old ++ more
  pub pushed : Pushed more

-- one step was put behind the others, where there was something to do, or none
abbrev pub IsPushed : (P : Type 0) → (Does : Step → Type 0) → (old new : List Step) → Type 0
IsPushed P Does old new = (P × ((step : Step) × Does step × (new ≡ old ++ step ∷ []))) ⊎ ((¬ P) × (new ≡ old))

-- numbers of packages, rising
pub record AreMembers (r : PackageList) (members : List ℕ) : Type 0 where
  pub within : All (λ m. m < length r.packages) members
  pub rising : IsStrictlyIncreasing members

-- the name is that of the package of one of some numbers
abbrev pub IsNameAmong : PackageList → (members : List ℕ) → (name : List ℕ) → Type 0
IsNameAmong r members name = Any (λ m. IsPackageAnd r.packages m (λ q. q.name ≡ name)) members

-- a builder holds one more package, or the packages that it held with some others
abbrev pub HoldsMore : (old new : List Held) → (P : Package → Type 0) → Type 0
HoldsMore old new P = (n : Package) → Contains (packages_of new) n ↔ (Contains (packages_of old) n ⊎ P n)

-- packages are exactly those of a later archive that have the name of one of some members
abbrev pub AreBrought : PackageList → (later : List Package) → (members : List ℕ) → (packages : List Package) → Type 0
AreBrought r later members packages =
    (n : Package) → Contains packages n ↔ (Contains later n × IsNameAmong r members n.name)
