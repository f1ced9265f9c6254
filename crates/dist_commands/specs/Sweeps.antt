-- What a sweep comes to: `strong`, `outdated` or `challenged PACKAGES CERT`, by its kind.
use Rattle.std.specs.Prelude.{ℕ, Bool, List, Option}
use Rattle.dist_outside.specs.Files.{Files}
use Rattle.dist_outside.specs.declared.limits.Limits.{Limits}
use Rattle.dist_repo.specs.PackageList.{PackageList}
use Rattle.dist_cert.specs.declared.records.CertKind.{CertKind}
use Rattle.dist_cert.specs.declared.records.Claim.{Claim}
use Rattle.dist_subject.specs.Limited.{PassesFirst}
use Rattle.dist_sweep.specs.Sweep.{IsSweep, IsFull, IsCutSweep}
use Rattle.dist_commands.specs.Claims.{IsReportOf, claims_status}
use Rattle.dist_commands.specs.PackagesStage.{PackagesStage}
use Rattle.dist_commands.specs.Stages.{Ending, Step, Goes, Then}
use Rattle.dist_commands.specs.WrittenFile.{IsGivenUp, NumbersStage, Writes, Writing}
use Rattle.dist_commands.specs.declared.refusal.Refusal.{Refusal}

-- a certificate of a kind and mode, with the limit of a question; its claims are reported
abbrev pub sweep_writing : Limits → CertKind → Bool → ℕ → PackageList → Writing (List Claim)
sweep_writing limits kind essential limit r = record {
  PassesFirst = PassesFirst r kind essential limits;
  IsWhole = IsSweep r kind essential limit limits;
  IsFull = IsFull r kind essential limit limits;
  IsCut = IsCutSweep r kind essential limit limits;
  status = claims_status;
  IsTold = IsReportOf r kind limit;
}

-- what certificates of the kind and mode are judged by keeps its numbers, or not
abbrev pub InputsStage : Option Files → Limits → CertKind → Bool → PackageList → Step (Unit {0}) → Type 0
InputsStage files limits kind essential r step = NumbersStage (PassesFirst r kind essential limits) files step

-- the end of the writing
abbrev pub Sweeps : Option Files → Limits → CertKind → (cert : List ℕ) → Bool → ℕ → PackageList → Ending → Type 0
Sweeps files limits kind cert essential limit r ending =
    Writes (sweep_writing limits kind essential limit r) files cert ending

-- PACKAGES is read and taken apart, then the input clauses are made. The first stage that is refused decides.
abbrev pub SweepStages : Option Files → Limits → CertKind → (packages : List ℕ) → Bool
    → (PackageList → Ending → Type 0) → Ending → Type 0
SweepStages files limits kind packages essential Last =
    Then (PackagesStage files limits packages) (λ r.
    Then (InputsStage files limits kind essential r) (λ _.
    Last r))

-- the writing was given up
abbrev pub IsSweepGivenUp : Option Files → Limits → CertKind → (packages cert : List ℕ) → Bool → ℕ → Refusal → Ending
    → Type 0
IsSweepGivenUp files limits kind packages cert essential limit =
    IsGivenUp (λ r. PackagesStage files limits packages (Goes r)) (sweep_writing limits kind essential limit) files cert
