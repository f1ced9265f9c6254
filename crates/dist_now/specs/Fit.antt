-- What a call over a repository and its installation is given.
use Rattle.std.specs.Prelude.{◌≡◌, Bool, List, length}
use Rattle.dist_repo.specs.PackageList.{PackageList}

-- one truth value per package
pub record IsOneEach (r : PackageList) (flags : List Bool) : Type 0 where
  pub same : length flags ≡ length r.packages
