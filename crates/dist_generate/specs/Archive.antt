-- What holds of generated texts.
use Rattle.std.specs.Prelude.{◌≡◌, ℕ, length, map, IsPermutation}
use Rattle.dist_package.specs.RepositoryOf.{IsRepositoryOf}
use Rattle.dist_repo.specs.PackageList.{PackageList}
use Rattle.dist_repo.specs.Size.{IsWithinSize}
use Rattle.dist_generate.specs.Generator.{generated, generated_packages}
use Rattle.dist_generate.specs.Packages.{package_of}

-- The text of a size and a seed is a Packages file, at this limit of stanzas: its repository has exactly the packages
-- that were drawn, so many, and is of a size that is asked.
pub record IsArchive (size seed limit : ℕ) : Type 0 where
  pub repository : PackageList
  pub is_repository : IsRepositoryOf (generated size seed) limit repository
  pub packages : IsPermutation (map package_of (generated_packages size seed)) repository.packages
  pub count : length repository.packages ≡ size
  pub within_size : IsWithinSize repository
