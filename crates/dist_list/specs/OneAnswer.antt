-- A text names one set at most, or has one first bad line at most, and never both.
use Rattle.std.specs.Prelude.{◌≡◌, ℕ, Bool, List}
use Rattle.dist_repo.specs.declared.package.Package.{Package}
use Rattle.dist_list.specs.PackageSet.{NamesSet, IsBadAt}

-- a text names one set at most, has one first bad line at most, and never both
pub record HasOneAnswer (packages : List Package) (text : List ℕ) : Type 0 where
  pub one_set : (members other : List Bool) → NamesSet packages text members → NamesSet packages text other
      → other ≡ members
  pub one_bad_line : (line other : ℕ) → IsBadAt packages text line → IsBadAt packages text other → other ≡ line
  pub never_both : (members : List Bool) (line : ℕ) → NamesSet packages text members → ¬ IsBadAt packages text line
