-- What is found of one name of a cluster. No public clause cites it.
use Rattle.std.specs.Prelude.{◌≡◌, ℕ, List, Any}
use Rattle.std.specs.declared.cmp.Ordering.TheVariants.{Equal}
use Rattle.dist_version.specs.Order.{version_cmp}
use Rattle.dist_repo.specs.PackageList.{IsPackageAnd}
use Rattle.dist_archive.specs.Archive.{ArchiveView}

-- the name of the package of a number is held at an equal version
abbrev pub IsHeldAt : ArchiveView → (number : ℕ) → (version : List ℕ) → Type 0
IsHeldAt v number version = IsPackageAnd v.space.repository.packages number
    (λ q. Any (λ n. (n.name ≡ q.name) × (version_cmp n.version version ≡ Equal)) v.packages)
