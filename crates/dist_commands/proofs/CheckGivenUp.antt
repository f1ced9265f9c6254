-- Why a check is given up.
use Rattle.std.proofs.Common.{ℕ, List, inl, inr, Result, Err, refl}
use Rattle.dist_outside.specs.DeskView.{DeskView}
use Rattle.dist_outside.specs.Files.{IsPresent, file_bytes}
use Rattle.dist_outside.specs.declared.trouble.WorkError.{WorkError}
use Rattle.dist_outside.specs.declared.trouble.WorkError.TheVariants as work
use Rattle.dist_cert.specs.declared.faults.ReadCertError.{ReadCertError}
use Rattle.dist_cert.specs.declared.faults.ReadCertError.TheVariants.{Work}
use Rattle.dist_judge.specs.Causes.{OnceRead, TextCause}
use Rattle.dist_judge.specs.Judging.{OfText}
use Rattle.dist_commands.specs.CheckedFile.{CheckStage}
use Rattle.dist_commands.specs.DuePrivate.{IsDue}
use Rattle.dist_commands.specs.Refusal.{refusal_of}
use Rattle.dist_commands.specs.Stages.{Ends}

pub check_due : {X : Type 0} (Answers : List ℕ → Result X ReadCertError → Type 0) (old new : DeskView) (name : List ℕ) (error : WorkError)
    → OnceRead {X = X} (Err error) (IsPresent old.files name) → OfText (file_bytes old.files name) (λ text. Answers text (Err (Work error)))
    → ((text : List ℕ) × Answers text (Err (Work error))) → TextCause old new (Work error)
    → IsDue (λ ending. CheckStage Answers old.files name (Ends ending)) old new (refusal_of error)
check_due Answers old new name work.ReadFault present answers some cause = inl (refl, cause)
check_due Answers old new name work.WriteFault present answers some cause = absurd cause
check_due Answers old new name work.NoMemory present answers some cause = inr (inl refl)
check_due Answers old new name (work.TooLarge what) present answers some cause =
    inr (inr (Work (work.TooLarge what), record { present = present; answers = answers; some = some }, refl))
