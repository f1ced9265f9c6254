-- Strong dependencies (Abate, Boender, Di Cosmo and Zacchiroli, "Strong dependencies between software components",
-- 2009).
use Rattle.std.specs.Prelude.{Bool, List, Contains}
use Rattle.dist_repo.specs.Healthy.{Healthy, required_names}
use Rattle.dist_repo.specs.PackageList.{PackageList}
use Rattle.dist_repo.specs.declared.package.Package.{Package}

-- a healthy installation of the repository, at mode essential or plain
abbrev pub IsInstallation : Bool → PackageList → List Package → Type 0
IsInstallation essential repository members =
    Healthy repository.architecture (required_names essential repository.packages) repository.packages members

-- Some healthy installation holds the package.
pub record IsInstallable (essential : Bool) (repository : PackageList) (p : Package) : Type 0 where
  pub members : List Package
  pub healthy : IsInstallation essential repository members
  pub holds : Contains members p

-- The package is installable, and every healthy installation that holds it holds the other one.
pub record StronglyDepends (essential : Bool) (repository : PackageList) (p q : Package) : Type 0 where
  pub installable : IsInstallable essential repository p
  pub always : (members : List Package) → IsInstallation essential repository members → Contains members p
      → Contains members q
