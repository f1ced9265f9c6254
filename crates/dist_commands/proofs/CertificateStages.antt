-- The end of an accepted certificate, and of an accepted file of an explanation or of a repair.
use Rattle.std.proofs.Common.{◌≡◌, ℕ, List, inr, Option, refl}
use Rattle.dist_outside.specs.Files.{Files}
use Rattle.dist_outside.specs.declared.limits.Limits.{Limits}
use Rattle.dist_repo.specs.PackageList.{PackageList}
use Rattle.dist_cert.specs.declared.records.Claim.{Claim}
use Rattle.dist_cert.specs.declared.records.Header.{Header}
use Rattle.dist_check.specs.Answers.{AcceptedMeans}
use Rattle.dist_explain.specs.Verdicts.{AcceptedMeans as ExplanationMeans}
use Rattle.dist_explain.specs.declared.explained.Explained.{Explained}
use Rattle.dist_explain.specs.declared.verdict.ExplainHeader.{ExplainHeader}
use Rattle.dist_repair.specs.Verdicts.{AcceptedSays}
use Rattle.dist_repair.specs.declared.repair.Repair.{Repair}
use Rattle.dist_repair.specs.declared.verdict.RepairHeader.{RepairHeader}
use Rattle.dist_report.specs.ExplainedText.{IsExplainedText}
use Rattle.dist_report.specs.RepairText.{repair_text}
use Rattle.dist_space.specs.Space.{SpaceView}
use Rattle.dist_commands.specs.Check.{CertificateStage, Reports}
use Rattle.dist_commands.specs.CheckExplain.{ExplanationStage, TellsExplained, explained_status}
use Rattle.dist_commands.specs.CheckRepair.{RepairStage, TellsRepair, repaired_status}
use Rattle.dist_commands.specs.Claims.{IsReportOf, claims_status}
use Rattle.dist_commands.specs.Stages.{Goes, Then, answered}
use Rattle.dist_commands.specs.declared.status.Status.{Status}

pub reported : (files : Option Files) (limits : Limits) (cert : List ℕ) (r : PackageList) (h : Header) (made : List Claim) (status : Status) (text : List ℕ)
    → CertificateStage files limits cert r (Goes (h, made)) → AcceptedMeans r h made → status ≡ claims_status made
    → IsReportOf r h.kind h.limit made text
    → Then (CertificateStage files limits cert r) (Reports files r) (answered files status text)
reported files limits cert r h made status text judged means s told =
    inr ((h, made), judged, record { means = means; text = text; is_report = told; is = rw s refl })

pub told_explanation : (files : Option Files) (limits : Limits) (cert : List ℕ) (r : PackageList) (h : ExplainHeader) (explained : Explained)
    (status : Status) (text : List ℕ) → ExplanationStage files limits cert r (Goes (h, explained)) → ExplanationMeans r h explained
    → status ≡ explained_status explained → IsExplainedText r h.«package» explained text
    → Then (ExplanationStage files limits cert r) (TellsExplained files r) (answered files status text)
told_explanation files limits cert r h explained status text judged means s told =
    inr ((h, explained), judged, record { means = means; text = text; is_text = told; is = rw s refl })

pub told_repair : (files : Option Files) (limits : Limits) (cert : List ℕ) (s : SpaceView) (h : RepairHeader) (repair : Repair) (status : Status)
    (text : List ℕ) → RepairStage files limits cert s (Goes (h, repair)) → AcceptedSays s h repair → status ≡ repaired_status repair
    → text ≡ repair_text s h.«package» repair → Then (RepairStage files limits cert s) (TellsRepair files s) (answered files status text)
told_repair files limits cert s h repair status text judged says is told =
    inr ((h, repair), judged, record { says = says; is = rw (is, told) refl })
