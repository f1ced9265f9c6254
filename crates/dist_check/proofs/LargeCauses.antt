-- Too many variables, input clauses or literals come from what certificates are judged by alone.
use Rattle.std.proofs.Common.{ℕ, List, Result, Ok, Err, IfErr}
use Rattle.dist_outside.specs.DeskView.{DeskView}
use Rattle.dist_outside.specs.declared.limits.Limits.{Limits}
use Rattle.dist_outside.specs.declared.trouble.What.TheVariants.{Variables, Clauses, Literals}
use Rattle.dist_outside.specs.declared.trouble.WorkError.TheVariants.{TooLarge}
use Rattle.dist_repo.specs.PackageList.{PackageList}
use Rattle.dist_cert.specs.declared.faults.ReadCertError.{ReadCertError}
use Rattle.dist_cert.specs.declared.faults.ReadCertError.TheVariants.{Work}
use Rattle.dist_cert.specs.declared.records.Claim.{Claim}
use Rattle.dist_cert.specs.declared.records.Header.{Header}
use Rattle.dist_cert.specs.Reading.{ReaderView, HeaderCause}
use Rattle.dist_check.specs.Checking.{LargeCause, TextAnswers}
use Rattle.dist_check.specs.Start.{StartAnswers}

pub header-large : (r : PackageList) (limits : Limits) (old new : ReaderView) (before after : DeskView) (error : ReadCertError)
    → HeaderCause old new before after (Err error) → LargeCause r limits error
header-large r limits old new before after (Work (TooLarge Variables)) cause = absurd cause
header-large r limits old new before after (Work (TooLarge Clauses)) cause = absurd cause
header-large r limits old new before after (Work (TooLarge Literals)) cause = absurd cause
header-large r limits old new before after error cause = tt

pub start-large : (r : PackageList) (limits : Limits) (h : Header) (error : ReadCertError) → StartAnswers r limits h (Err error) → LargeCause r limits error
start-large r limits h (Work (TooLarge Variables)) answer = (h.kind, h.essential, answer)
start-large r limits h (Work (TooLarge Clauses)) answer = (h.kind, h.essential, answer)
start-large r limits h (Work (TooLarge Literals)) answer = (h.kind, h.essential, answer)
start-large r limits h error answer = tt

pub some-large : {X : Type 0} (header : X → Header) (claims : X → List Claim) (r : PackageList) (limits : Limits) (text : List ℕ)
    (result : Result X ReadCertError) → TextAnswers header claims r limits text result → IfErr result (LargeCause r limits)
some-large header claims r limits text (Ok made) answers = tt
some-large header claims r limits text (Err (Work (TooLarge Variables))) answers = (answers.h.kind, answers.h.essential, answers.passes)
some-large header claims r limits text (Err (Work (TooLarge Clauses))) answers = (answers.h.kind, answers.h.essential, answers.passes)
some-large header claims r limits text (Err (Work (TooLarge Literals))) answers = (answers.h.kind, answers.h.essential, answers.passes)
some-large header claims r limits text (Err error) answers = tt
