-- What is found of the package of a new name before it comes. No public clause cites it.
use Rattle.std.specs.Prelude.{◌≡◌, List, [], ◌∷◌}
use Rattle.dist_version.specs.Spelling.{IsVersion}
use Rattle.dist_repo.specs.PackageList.{PackageList}
use Rattle.dist_repo.specs.declared.package.Package.{Package}
use Rattle.dist_future.specs.Future.{IsProvided, IsTaken}
use Rattle.dist_archive.specs.Refusals.{IsOfOtherArchitecture}
use Rattle.dist_archive.specs.Steps.{IsHeld}

-- nothing is wrong with it
pub record IsFree (r : PackageList) (archive : List Package) (p : Package) : Type 0 where
  pub untaken : ¬ IsTaken r p.name
  pub unheld : ¬ IsHeld archive p.name
  pub unprovided : ¬ IsProvided r p.name
  pub version : IsVersion p.version
  pub provides : p.provides ≡ []

-- and it is the one package of its block
pub record IsFreeBlock (r : PackageList) (archive : List Package) (block : PackageList) : Type 0 where
  pub architecture : ¬ IsOfOtherArchitecture r block
  pub fresh : Package
  pub one : block.packages ≡ fresh ∷ []
  pub free : IsFree r archive fresh
