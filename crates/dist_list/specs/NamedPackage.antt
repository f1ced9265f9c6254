-- A text that names one package: `NAME=VERSION`.
use Rattle.std.specs.Prelude.{◌≡◌, ℕ, List, Some, codes, refl}
use Rattle.dist_version.specs.Spelling.{IsVersion, split_once}
use Rattle.dist_repo.specs.Providers.{IsPackageAt}
use Rattle.dist_repo.specs.declared.package.Package.{Package}

-- the byte `=`
abbrev pub equals_sign : ℕ
equals_sign = 61

-- What stands before the first equals sign is the name of the package of this number, and what stands behind it spells
-- a version that is equal to its own. Neither names nor versions have an equals sign.
pub record IsNamed (packages : List Package) (text : List ℕ) (number : ℕ) : Type 0 where
  pub name : List ℕ
  pub version : List ℕ
  pub spelled : split_once equals_sign text ≡ Some (name, version)
  pub is_version : IsVersion version
  pub found : IsPackageAt packages number name version

-- `a=1=2` is cut at the first equals sign
cut_at_the_first : split_once equals_sign (codes "a=1=2") ≡ Some (codes "a", codes "1=2")
cut_at_the_first = refl
