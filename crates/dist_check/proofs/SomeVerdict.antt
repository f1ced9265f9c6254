-- A text has some verdict.
use Rattle.std.proofs.Common.{◌≢◌, ℕ, Bool, false, List, [], refl}
use Rattle.dist_outside.specs.declared.limits.Limits.{Limits}
use Rattle.dist_repo.specs.Order.{IsInOrder}
use Rattle.dist_repo.specs.PackageList.{PackageList}
use Rattle.dist_cert.specs.declared.faults.CertFault.{CertFault}
use Rattle.dist_cert.specs.declared.records.CertKind.{CertKind}
use Rattle.dist_cert.specs.declared.records.CertKind.TheVariants.{Strong, Outdated, Challenged}
use Rattle.dist_cert.specs.declared.records.Claim.{Claim}
use Rattle.dist_cert.specs.declared.records.Header.{Header}
use Rattle.dist_cert.specs.Accepted.{claims_in}
use Rattle.dist_cert.specs.ClearFormsLaws.{FormsAreClear}
use Rattle.dist_judge.specs.VerdictLaws.{some_judgement}
use Rattle.dist_check.specs.Answers.{AsksOfFutures}
use Rattle.dist_subject.specs.Basis.{Basis, HaveVersions, IsAccepted, IsBasisOf, IsRefused, Today}
use Rattle.dist_subject.specs.Certificates.{certificates_of}
use Rattle.dist_check.proofs.ClearKind.{clear-kind}

-- the laws of dist_subject
abbrev pub TodayIsThere : Type 0
TodayIsThere = (r : PackageList) (essential : Bool) → IsInOrder r.packages → (basis : Basis) × IsBasisOf r Strong essential basis

abbrev pub BasisIsThere : Type 0
BasisIsThere = (r : PackageList) (kind : CertKind) (essential : Bool) → IsInOrder r.packages → HaveVersions r
    → (basis : Basis) × IsBasisOf r kind essential basis

-- versions are asked for where the kind is none of the present
some-basis : TodayIsThere → BasisIsThere → (r : PackageList) (kind : CertKind) (essential : Bool) → IsInOrder r.packages
    → (kind ≢ Strong → HaveVersions r) → (basis : Basis) × IsBasisOf r kind essential basis
some-basis today there r Strong essential ordered versions = today r essential ordered
some-basis today there r Outdated essential ordered versions = there r Outdated essential ordered (versions (λ e. cc))
some-basis today there r Challenged essential ordered versions = there r Challenged essential ordered (versions (λ e. cc))

pub some-verdict : FormsAreClear → TodayIsThere → BasisIsThere → (r : PackageList) (limits : Limits) (text : List ℕ) → IsInOrder r.packages
    → (AsksOfFutures text → HaveVersions r)
    → ((h : Header) (made : List Claim) → ¬ IsAccepted r limits text h made) → ¬ ((fault : CertFault) → ¬ IsRefused r limits text fault)
some-verdict clear today there r limits text ordered versions not_accepted not_refused =
    some_judgement (certificates_of r) (clear-kind clear r) (Today false []) limits text
    (λ x. some-basis today there r x.h.kind x.h.essential ordered (λ later. versions (x.h, x.line, x.more, x.begins, x.form, later)))
    (λ h steps accepted. not_accepted h (claims_in steps) (accepted.0, accepted.1, (steps, accepted.2, refl))) not_refused
