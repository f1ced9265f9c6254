-- What a run tells of claims: its status, and their report.
use Rattle.std.specs.Prelude.{ℕ, Bool, List, if◌then◌else◌}
use Rattle.std.specs.List.{list_any}
use Rattle.dist_repo.specs.PackageList.{PackageList}
use Rattle.dist_cert.specs.declared.records.CertKind.{CertKind}
use Rattle.dist_cert.specs.declared.records.Claim.{Claim}
use Rattle.dist_subject.specs.Spoken.{AreSpokenOf}
pub use Rattle.dist_report.specs.Marks.{has_mark}
use Rattle.dist_report.specs.ReportText.{IsTextOfKind}
use Rattle.dist_commands.specs.declared.status.Status.{Status}
use Rattle.dist_commands.specs.declared.status.Status.TheVariants.{Done, DoneWithUndecided}

-- done, and something is left undecided or not
abbrev pub marked_status : Bool → Status
marked_status marked = if marked then DoneWithUndecided else Done

-- the status that goes with claims
abbrev pub claims_status : List Claim → Status
claims_status made = marked_status (list_any has_mark made)

-- the report of claims of a kind, by the names of the packages that certificates of the kind speak of
pub record IsReportOf (r : PackageList) (kind : CertKind) (limit : ℕ) (made : List Claim) (text : List ℕ) : Type 0
  where
    pub spoken : PackageList
    pub are_spoken : AreSpokenOf kind r spoken
    pub is_text : IsTextOfKind kind spoken limit made text
