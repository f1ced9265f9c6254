-- Which packages have or provide a name, by Debian Policy 7.5, and which has a name and a version.
use Rattle.std.specs.Prelude.{◌≡◌, ◌⊎◌, ◌↔◌, ℕ, List, Option, Any, Contains}
use Rattle.std.specs.List.Sorted.{IsStrictlyIncreasing}
use Rattle.std.specs.declared.cmp.Ordering.TheVariants.{Equal}
use Rattle.dist_relation.specs.declared.atom.Provide.{Provide}
use Rattle.dist_version.specs.Order.{version_cmp}
use Rattle.dist_repo.specs.Match.{IsUsable}
use Rattle.dist_repo.specs.PackageList.{PackageList, IsPackageAnd}
use Rattle.dist_repo.specs.declared.package.Package.{Package}

-- a usable entry of Provides of this name
abbrev pub IsEntryOf : Option (List ℕ) → List ℕ → Provide → Type 0
IsEntryOf architecture name entry = IsUsable architecture entry.qualifier × (entry.name ≡ name)

-- the package has the name, or a usable entry of it
abbrev pub IsProvider : Option (List ℕ) → List ℕ → Package → Type 0
IsProvider architecture name p = (p.name ≡ name) ⊎ Any (IsEntryOf architecture name) p.provides

-- The numbers are exactly those of the packages that have or provide the name, rising.
pub record AreProviders (repository : PackageList) (name : List ℕ) (numbers : List ℕ) : Type 0 where
  pub rising : IsStrictlyIncreasing numbers
  pub exact : (number : ℕ) → Contains numbers number
      ↔ IsPackageAnd repository.packages number (IsProvider repository.architecture name)

-- the package of this number has this name and an equal version
abbrev pub IsPackageAt : List Package → ℕ → (name version : List ℕ) → Type 0
IsPackageAt packages number name version =
    IsPackageAnd packages number (λ p. (p.name ≡ name) × (version_cmp p.version version ≡ Equal))
