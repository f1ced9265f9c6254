-- What `check PACKAGES CERT` comes to.
use Rattle.std.specs.Prelude.{◌≡◌, ℕ, List, Option, Result}
use Rattle.dist_outside.specs.Files.{Files}
use Rattle.dist_outside.specs.declared.limits.Limits.{Limits}
use Rattle.dist_repo.specs.PackageList.{PackageList}
use Rattle.dist_cert.specs.declared.faults.ReadCertError.{ReadCertError}
use Rattle.dist_cert.specs.declared.records.Claim.{Claim}
use Rattle.dist_cert.specs.declared.records.Header.{Header}
use Rattle.dist_check.specs.Answers.{AcceptedMeans}
use Rattle.dist_check.specs.Checking.{TextAnswers}
use Rattle.dist_commands.specs.CheckedFile.{CheckStage}
use Rattle.dist_commands.specs.Claims.{IsReportOf, claims_status}
use Rattle.dist_commands.specs.PackagesStage.{PackagesStage}
use Rattle.dist_commands.specs.Stages.{Ending, Step, Then, answered}

-- when each answer is given of a certificate's text: an accepted one says its first line and its claims
abbrev pub CertificateAnswers : PackageList → Limits → (text : List ℕ) → Result (Header × List Claim) ReadCertError
    → Type 0
CertificateAnswers r limits text result =
    TextAnswers (λ (x : Header × List Claim). x.0) (λ (x : Header × List Claim). x.1) r limits text result

-- the first line and the claims of CERT where it is accepted, or its first fault, or the number that it passes
abbrev pub CertificateStage : Option Files → Limits → (cert : List ℕ) → PackageList → Step (Header × List Claim)
    → Type 0
CertificateStage files limits cert r step = CheckStage (CertificateAnswers r limits) files cert step

-- what is accepted is true, and is reported
pub record Reports (files : Option Files) (r : PackageList) (accepted : Header × List Claim) (ending : Ending) : Type 0
  where
    pub means : AcceptedMeans r accepted.0 accepted.1
    pub text : List ℕ
    pub is_report : IsReportOf r accepted.0.kind accepted.0.limit accepted.1 text
    pub is : ending ≡ answered files (claims_status accepted.1) text

-- PACKAGES is read and taken apart first, then CERT is judged. The first stage that is refused decides.
abbrev pub CheckStages : Option Files → Limits → (packages cert : List ℕ)
    → (PackageList → (Header × List Claim) → Ending → Type 0) → Ending → Type 0
CheckStages files limits packages cert Last =
    Then (PackagesStage files limits packages) (λ r.
    Then (CertificateStage files limits cert r) (Last r))
