-- What is answered of a file: accepted, refused, or an error of work.
use Rattle.std.specs.Prelude.{ℕ, List, Result, Ok, Err}
use Rattle.dist_outside.specs.declared.limits.Limits.{Limits}
use Rattle.dist_outside.specs.declared.trouble.WorkError.{WorkError}
use Rattle.dist_cert.specs.declared.faults.ReadCertError.{ReadCertError}
use Rattle.dist_cert.specs.declared.faults.ReadCertError.TheVariants.{Bad, Work}
use Rattle.dist_findings.specs.AnswerFiles.{AnswerFile}
use Rattle.dist_findings.specs.Answers.{TextAnswers}
use Rattle.dist_findings.specs.declared.file.Answered.{Answered}
use Rattle.dist_findings.specs.declared.file.Answered.TheVariants.{Accepted, Refused}
use Rattle.dist_findings.specs.declared.finding.Finding.{Finding}

-- an answer as what reading gives: the numbers and the notes, or an error
abbrev pub as_read : {N : Type 0} → Result (Answered N) WorkError → Result (List ℕ × N) ReadCertError
as_read (Ok (Accepted numbers notes)) = Ok (numbers.items, notes)
as_read (Ok (Refused fault)) = Err (Bad fault)
as_read (Err error) = Err (Work error)

-- when each answer is given
abbrev pub FileAnswers : {N : Type 0} → AnswerFile → Limits → (List ℕ → List Finding → N → Type 0) → List ℕ
    → Result (Answered N) WorkError → Type 0
FileAnswers file limits noted text result =
    TextAnswers file limits (λ done. done.0) (λ done found. noted done.0 found done.1) text (as_read result)
