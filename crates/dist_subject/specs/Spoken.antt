-- Which packages certificates speak of.
use Rattle.std.specs.Prelude.{◌≡◌}
use Rattle.dist_repo.specs.Order.{IsLatestOf}
use Rattle.dist_repo.specs.PackageList.{PackageList}
use Rattle.dist_cert.specs.declared.records.CertKind.{CertKind}
use Rattle.dist_cert.specs.declared.records.CertKind.TheVariants.{Strong}

-- the packages that certificates of a kind speak of: all, or the newest of each name
abbrev pub AreSpokenOf : CertKind → PackageList → (spoken : PackageList) → Type 0
AreSpokenOf Strong r spoken = spoken ≡ r
AreSpokenOf kind r spoken = IsLatestOf r spoken
