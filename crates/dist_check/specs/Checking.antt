-- What a checker answers, of a text that is told.
use Rattle.std.specs.Prelude.{ℕ, Bool, List, Result, Ok, Err}
use Rattle.dist_outside.specs.declared.limits.Limits.{Limits}
use Rattle.dist_outside.specs.declared.trouble.What.{What}
use Rattle.dist_outside.specs.declared.trouble.What.TheVariants.{Variables, Clauses, Literals}
use Rattle.dist_outside.specs.declared.trouble.WorkError.TheVariants.{TooLarge}
use Rattle.dist_repo.specs.PackageList.{PackageList}
use Rattle.dist_cert.specs.declared.faults.ReadCertError.{ReadCertError}
use Rattle.dist_cert.specs.declared.faults.ReadCertError.TheVariants.{Work}
use Rattle.dist_cert.specs.declared.records.CertKind.{CertKind}
use Rattle.dist_cert.specs.declared.records.Claim.{Claim}
use Rattle.dist_cert.specs.declared.records.Header.{Header}
use Rattle.dist_judge.specs.Judging.{StopsWith}
use Rattle.dist_subject.specs.Certificates.{certificates_of}
use Rattle.dist_subject.specs.Completed.{IsCompleted}
use Rattle.dist_subject.specs.Limited.{PassesFirst}

-- When each answer is given. A fault of the desk and want of memory may come in place of any.
abbrev pub TextAnswers : {X : Type 0} → (X → Header) → (X → List Claim) → PackageList → Limits → List ℕ
    → Result X ReadCertError → Type 0
TextAnswers header claims r limits text (Ok done) = IsCompleted r limits text (header done) (claims done)
TextAnswers header claims r limits text (Err error) = StopsWith (certificates_of r) limits text error

-- at some kind and mode, what certificates are judged by passes this number first
abbrev pub PassesSome : PackageList → Limits → What → Type 0
PassesSome r limits what = (kind : CertKind) × (essential : Bool) × PassesFirst r kind essential limits what

-- Whatever the desk tells, too many variables, input clauses or literals are told only of a repository for which what
-- certificates are judged by passes that number.
abbrev pub LargeCause : PackageList → Limits → ReadCertError → Type 0
LargeCause r limits (Work (TooLarge Variables)) = PassesSome r limits Variables
LargeCause r limits (Work (TooLarge Clauses)) = PassesSome r limits Clauses
LargeCause r limits (Work (TooLarge Literals)) = PassesSome r limits Literals
LargeCause r limits error = Unit {0}
