-- The stage that checks a file line by line. It is accepted, with what it says, or its first fault ends the run, or the
-- number that it passes.
use Rattle.std.specs.Prelude.{◌≡◌, ℕ, List, Option, Result, Ok, Err}
use Rattle.dist_outside.specs.Files.{Files, IsPresent, file_bytes}
use Rattle.dist_outside.specs.declared.trouble.WorkError.TheVariants as work
use Rattle.dist_cert.specs.declared.faults.ReadCertError.{ReadCertError}
use Rattle.dist_cert.specs.declared.faults.ReadCertError.TheVariants.{Bad, Work}
use Rattle.dist_judge.specs.AnswerLaws.{IsOfText}
use Rattle.dist_judge.specs.Judging.{OfText}
use Rattle.dist_commands.specs.Stages.{Ending, Step, Goes, Ends, refused}
use Rattle.dist_commands.specs.declared.refusal.Refusal.TheVariants.{CertificateRefused, TooLarge}

-- The file is there, and this is the answer of its bytes; where these are not told, it is that of some bytes.
pub record IsJudged {X : Type 0} (Answers : List ℕ → Result X ReadCertError → Type 0) (files : Option Files)
    (name : List ℕ) (result : Result X ReadCertError) : Type 0 where
  pub present : IsPresent files name
  pub answers : OfText (file_bytes files name) (λ text. Answers text result)
  pub some : (text : List ℕ) × Answers text result

-- Of the answers that the bytes decide this one is given, and no other.
pub record IsOneAnswer {X : Type 0} (Answers : List ℕ → Result X ReadCertError → Type 0) (files : Option Files)
    (name : List ℕ) (result : Result X ReadCertError) : Type 0 where
  pub of_text : IsOfText result
  pub judged : IsJudged Answers files name result
  pub only : (other : Result X ReadCertError) → IsOfText other → IsJudged Answers files name other → other ≡ result

-- the end that a fault gives, and a number that is passed
abbrev pub IsEndOfError : Option Files → ReadCertError → Ending → Type 0
IsEndOfError files (Bad fault) ending = ending ≡ refused files (CertificateRefused fault)
IsEndOfError files (Work (work.TooLarge what)) ending = ending ≡ refused files (TooLarge what)
IsEndOfError files (Work error) ending = ⊥

-- what the file says, or the end of the run
abbrev pub CheckStage : {X : Type 0} → (List ℕ → Result X ReadCertError → Type 0) → Option Files → (name : List ℕ)
    → Step X → Type 0
CheckStage Answers files name (Goes x) = IsJudged Answers files name (Ok x)
CheckStage Answers files name (Ends ending) = (error : ReadCertError) × IsJudged Answers files name (Err error)
    × IsEndOfError files error ending
