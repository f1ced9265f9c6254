-- What is left of a source cluster in an archive that may have lost some of its packages, or all.
use Rattle.std.specs.Prelude.{◌≡◌, ℕ, List, Contains}
use Rattle.std.specs.declared.cmp.Ordering.TheVariants.{Equal}
use Rattle.dist_version.specs.Order.{version_cmp}
use Rattle.dist_repo.specs.PackageList.{PackageList}
use Rattle.dist_repo.specs.declared.package.Package.{Package}
use Rattle.dist_archive.specs.Steps.{IsClusterName}

-- The archive holds no package of the names of c's cluster at another version than this one: what it has under such a
-- name is at an equal version. Which of these names it has is left open.
abbrev pub HoldsNoOther : PackageList → (archive : List Package) → (c : Package) → (version : List ℕ) → Type 0
HoldsNoOther r archive c version = (n : Package) → Contains archive n → IsClusterName r c n.name
    → version_cmp n.version version ≡ Equal

-- it has nothing under a name of c's cluster
abbrev pub HoldsNothing : PackageList → (archive : List Package) → (c : Package) → Type 0
HoldsNothing r archive c = (n : Package) → Contains archive n → ¬ IsClusterName r c n.name
