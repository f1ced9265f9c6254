-- What the certificate of a sweep proves.
use Rattle.std.proofs.Common.{ℕ, Bool, List}
use Rattle.dist_outside.specs.declared.limits.Limits.{Limits}
use Rattle.dist_repo.specs.Order.{IsInOrder}
use Rattle.dist_repo.specs.PackageList.{PackageList}
use Rattle.dist_cert.specs.declared.records.CertKind.{CertKind}
use Rattle.dist_cert.specs.declared.records.Claim.{Claim}
use Rattle.dist_cert.specs.declared.records.Header.{Header}
use Rattle.dist_subject.specs.Completed.{IsCompleted}
use Rattle.dist_subject.specs.Basis.{matter_of}
use Rattle.dist_sweep.specs.Sweep.{IsSweep, header_of}
use Rattle.dist_check.specs.Means.{Means}
use Rattle.dist_app.specs.LawsPrivate.{ClaimsHold}

completed_means : ClaimsHold → (r : PackageList) (limits : Limits) (text : List ℕ) (h : Header) (made : List Claim) → IsInOrder r.packages
    → IsCompleted r limits text h made → Means h.kind h.essential r made
completed_means hold r limits text h made in_order done =
    hold r limits text h made in_order (done.basis, done.is_basis, (done.steps, done.accepted, done.claims))

pub sweep_means : ClaimsHold → (r : PackageList) (kind : CertKind) (essential : Bool) (limit : ℕ) (limits : Limits) (text : List ℕ) (made : List Claim)
    → IsInOrder r.packages
    → IsSweep r kind essential limit limits made text → Means kind essential r made
sweep_means hold r kind essential limit limits text made in_order (basis, are, (done, part)) =
    completed_means hold r limits text (header_of kind essential limit (matter_of r basis)) made in_order done
