-- What is answered of a file, and when.
use Rattle.std.specs.Prelude.{ℕ, List, Result, Ok, Err}
use Rattle.dist_outside.specs.declared.limits.Limits.{Limits}
use Rattle.dist_cert.specs.declared.faults.ReadCertError.{ReadCertError}
use Rattle.dist_judge.specs.Judging.{IsCompleted, StopsWith}
use Rattle.dist_findings.specs.AnswerFiles.{AnswerFile, files_of}
use Rattle.dist_findings.specs.Findings.{findings}
use Rattle.dist_findings.specs.declared.finding.Finding.{Finding}

-- the text is accepted with these numbers, keeps the limits, and this holds of what its lines find
abbrev pub IsAnswered : AnswerFile → Limits → List ℕ → (numbers : List ℕ) → (List Finding → Type 0) → Type 0
IsAnswered file limits text numbers Holds =
    IsCompleted (files_of file) limits text numbers (λ basis steps. Holds (findings steps))

-- When each answer is given. A fault of the desk and want of memory may come in place of any.
abbrev pub TextAnswers : {X : Type 0} → AnswerFile → Limits → (X → List ℕ) → (X → List Finding → Type 0) → List ℕ
    → Result X ReadCertError → Type 0
TextAnswers file limits numbers Holds text (Ok done) = IsAnswered file limits text (numbers done) (Holds done)
TextAnswers file limits numbers Holds text (Err error) = StopsWith (files_of file) limits text error
