-- The packages in conflict with a package that stand behind it.
use Rattle.std.specs.Prelude.{ℕ, ◌<◌}
use Rattle.dist_repo.specs.Conflict.{AreInConflict}
use Rattle.dist_repo.specs.PackageList.{PackageList, IsPackageAnd}

-- the packages of two numbers, the lesser one first, are in conflict
abbrev pub IsPartner : PackageList → (number other : ℕ) → Type 0
IsPartner r number other = (number < other)
    × IsPackageAnd r.packages number (λ p. IsPackageAnd r.packages other (AreInConflict r.architecture p))
