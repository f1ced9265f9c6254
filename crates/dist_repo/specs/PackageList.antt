-- What contracts see of a repository: its packages, numbered from 0 by their places, and the architecture of its file,
-- where that has one.
use Rattle.std.specs.Prelude.{ℕ, List, Option, IsSomeAnd, slice_get}
use Rattle.dist_repo.specs.declared.package.Package.{Package}

-- a repository as contracts see it: the architecture of the file, and the packages in order
pub record PackageList : Type 0 where
  pub architecture : Option (List ℕ)
  pub packages : List Package

-- the package of a number has a property
abbrev pub IsPackageAnd : List Package → ℕ → (Package → Type 0) → Type 0
IsPackageAnd packages number P = IsSomeAnd (slice_get packages number) P
