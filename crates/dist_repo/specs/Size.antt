-- How large a repository is that the calls above take.
use Rattle.std.specs.Prelude.{◌≡◌, ℕ, ◌+◌, ◌<◌, ◌≤◌, List, Option, MatchOption, length, sum_by}
use Rattle.dist_base.specs.declared.TheConstants.{MAX_PACKAGES, MAX_RELATIONS}
use Rattle.dist_repo.specs.PackageList.{PackageList}
use Rattle.dist_repo.specs.declared.package.Package.{Package}

-- the atoms of a package's dependencies and conflicts, and its entries of Provides
abbrev pub relations_of : Package → ℕ
relations_of p = sum_by (λ item. length item) p.depends + length p.conflicts + length p.provides

abbrev pub relation_count : List Package → ℕ
relation_count packages = sum_by relations_of packages

-- at most the stated numbers of packages, and of atoms and entries
pub record IsWithinSize (repository : PackageList) : Type 0 where
  pub packages : length repository.packages ≤ MAX_PACKAGES
  pub relations : relation_count repository.packages ≤ MAX_RELATIONS

-- what a limit leaves beside a count, where it reaches
abbrev pub Leaves : (limit count : ℕ) → Option ℕ → Type 0
Leaves limit count left = MatchOption left (limit < count) (λ rest. rest + count ≡ limit)
