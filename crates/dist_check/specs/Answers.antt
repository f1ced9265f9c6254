-- What a verdict on a text is right about.
use Rattle.std.specs.Prelude.{◌≢◌, ℕ, List, Result, Ok, Err}
use Rattle.dist_outside.specs.declared.limits.Limits.{Limits}
use Rattle.dist_outside.specs.declared.trouble.WorkError.{WorkError}
use Rattle.dist_repo.specs.PackageList.{PackageList}
use Rattle.dist_cert.specs.declared.faults.ReadCertError.{ReadCertError}
use Rattle.dist_cert.specs.declared.faults.ReadCertError.TheVariants.{Bad, Work}
use Rattle.dist_cert.specs.declared.records.CertKind.TheVariants.{Strong}
use Rattle.dist_cert.specs.declared.records.Claim.{Claim}
use Rattle.dist_cert.specs.declared.records.Header.{Header}
use Rattle.dist_cert.specs.Form.{header_text, HasHeaderForm}
use Rattle.dist_check.specs.Checking.{TextAnswers}
use Rattle.dist_check.specs.Means.{Means}
use Rattle.dist_cert.specs.FileLines.{BeginsWith}
use Rattle.dist_cert.specs.Refusal.{Fits}
use Rattle.dist_subject.specs.Basis.{Basis, IsAccepted, IsBasisOf, IsRefused, matter_of}
use Rattle.dist_check.specs.declared.verdict.Verdict.{Verdict}
use Rattle.dist_check.specs.declared.verdict.Verdict.TheVariants.{Accepted, Refused}

-- an answer as what reading gives: the first line and the claims, or an error
abbrev pub as_read : Result Verdict WorkError → Result (Header × List Claim) ReadCertError
as_read (Ok (Accepted h made)) = Ok (h, made)
as_read (Ok (Refused fault)) = Err (Bad fault)
as_read (Err error) = Err (Work error)

-- when each answer is given, accepted, refused, or an error of work
abbrev pub Answers : PackageList → Limits → List ℕ → Result Verdict WorkError → Type 0
Answers r limits text result = TextAnswers (λ (x : Header × List Claim). x.0) (λ (x : Header × List Claim). x.1) r
    limits text (as_read result)

-- What is accepted has a first line of its form, with the numbers of what certificates of its kind and mode are judged
-- by, and is true.
pub record AcceptedMeans (r : PackageList) (h : Header) (made : List Claim) : Type 0 where
  pub form : HasHeaderForm (header_text h) h
  pub basis : Basis
  pub is_basis : IsBasisOf r h.kind h.essential basis
  pub fits : Fits (matter_of r basis) h
  pub means : Means h.kind h.essential r made

-- what a verdict says whatever the desk tells
abbrev pub VerdictMeans : PackageList → Verdict → Type 0
VerdictMeans r (Accepted h made) = AcceptedMeans r h made
VerdictMeans r (Refused fault) = Unit {0}

-- the text has this verdict over the repository
abbrev pub IsVerdict : PackageList → Limits → List ℕ → Verdict → Type 0
IsVerdict r limits text (Accepted h made) = IsAccepted r limits text h made
IsVerdict r limits text (Refused fault) = IsRefused r limits text fault

-- the text has a first line of kind outdated or challenged
abbrev pub AsksOfFutures : List ℕ → Type 0
AsksOfFutures text = (h : Header) × (line more : List ℕ) × BeginsWith text line more × HasHeaderForm line h
    × (h.kind ≢ Strong)
