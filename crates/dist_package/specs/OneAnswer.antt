-- A Packages text has one repository at most, or one error at most, and never both.
use Rattle.std.specs.Prelude.{◌≡◌, ℕ, List}
use Rattle.dist_control.specs.RawStanza.{raw_stanzas}
use Rattle.dist_repo.specs.PackageList.{PackageList}
use Rattle.dist_package.specs.FirstFault.{IsRefused}
use Rattle.dist_package.specs.RepositoryOf.{IsRepositoryOf}
use Rattle.dist_package.specs.declared.error.PackagesError.{PackagesError}

-- a text has one repository at most, one error at most, and never both
pub record HasOneAnswer (text : List ℕ) (limit : ℕ) : Type 0 where
  pub one_repository : (repository other : PackageList) → IsRepositoryOf text limit repository
      → IsRepositoryOf text limit other → other ≡ repository
  pub one_error : (error other : PackagesError) → IsRefused (raw_stanzas text) limit error
      → IsRefused (raw_stanzas text) limit other → other ≡ error
  pub never_both : (repository : PackageList) (error : PackagesError) → IsRepositoryOf text limit repository
      → ¬ IsRefused (raw_stanzas text) limit error
