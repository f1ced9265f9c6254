use Rattle.std.proofs.Common.{ℕ, ◌<◌}
use Rattle.dist_repo.specs.PackageList.{IsPackageAnd}
use Rattle.dist_repo.specs.declared.package.Package.{Package}
use Rattle.dist_archive.specs.Steps.{IsOfCluster, IsUploaded}
use Rattle.dist_archive.proofs.uploads.check_packages.Given as goal

abbrev pub invariant-loop-number : goal.invariant-loop-number
invariant-loop-number l = (c : Package) → IsOfCluster l.space l.cluster c → (k : ℕ) → k < l.number
    → IsPackageAnd l.block.packages k (IsUploaded l.space.repository c l.version)
