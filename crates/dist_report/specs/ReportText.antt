-- The report of what an accepted certificate claims of the packages of a repository.
use Rattle.std.specs.Prelude.{◌≡◌, ℕ, List}
use Rattle.dist_cert.specs.declared.records.CertKind.{CertKind}
use Rattle.dist_cert.specs.declared.records.CertKind.TheVariants as kinds
use Rattle.dist_cert.specs.declared.records.Claim.{Claim}
use Rattle.dist_cert.specs.declared.records.Header.{Header}
use Rattle.dist_repo.specs.PackageList.{PackageList}
use Rattle.dist_report.specs.ChallengedReport.{IsChallengedText}
use Rattle.dist_report.specs.OutdatedReport.{outdated_lines}
use Rattle.dist_report.specs.StrongReport.{strong_lines}

-- the report of one kind
abbrev pub IsTextOfKind : CertKind → PackageList → (limit : ℕ) → List Claim → List ℕ → Type 0
IsTextOfKind kinds.Strong r limit made text = text ≡ strong_lines r.packages limit made
IsTextOfKind kinds.Outdated r limit made text = text ≡ outdated_lines r.packages limit made
IsTextOfKind kinds.Challenged r limit made text = IsChallengedText r limit made text

-- Of the first line it goes by the kind and the limit. Claims of other kinds are told nowhere.
abbrev pub IsReportText : PackageList → Header → List Claim → List ℕ → Type 0
IsReportText r h made text = IsTextOfKind h.kind r h.limit made text
