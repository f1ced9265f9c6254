-- What a sweep writes, and why it stops.
use Rattle.std.specs.Prelude.{◌≡◌, ◌⊎◌, ℕ, Bool, List, Result, Ok, Err, length}
use Rattle.dist_outside.specs.Counts.{Rose}
use Rattle.dist_outside.specs.DeskView.{DeskView, Holds, WriteCounts}
use Rattle.dist_outside.specs.Files.{Idle, IsNotWriting, with_file}
use Rattle.dist_outside.specs.declared.limits.Limits.{Limits}
use Rattle.dist_outside.specs.declared.trouble.What.{What}
use Rattle.dist_outside.specs.declared.trouble.What.TheVariants.{Variables, Clauses, Literals}
use Rattle.dist_outside.specs.declared.trouble.WorkError.{WorkError}
use Rattle.dist_outside.specs.declared.trouble.WorkError.TheVariants.{ReadFault, WriteFault, TooLarge, NoMemory}
use Rattle.dist_repo.specs.PackageList.{PackageList}
use Rattle.dist_cert.specs.declared.records.CertKind.{CertKind}
use Rattle.dist_cert.specs.declared.records.Claim.{Claim}
use Rattle.dist_cert.specs.declared.records.Header.{Header}
use Rattle.dist_cert.specs.Subject.{Matter}
use Rattle.dist_cert.specs.Part.{IsPart, IsStoppedBy, IsCutPart}
use Rattle.dist_subject.specs.Completed.{IsCompleted}
use Rattle.dist_subject.specs.Basis.{Basis, IsBasisOf, matter_of}
use Rattle.dist_subject.specs.Limited.{PassesFirst}

-- the first line of a certificate on what is spoken of
abbrev pub header_of : CertKind → Bool → ℕ → Matter → Header
header_of kind essential limit matter = record {
  kind = kind;
  limit = limit;
  packages = matter.packages;
  variables = matter.variables;
  clauses = length matter.inputs;
  essential = essential;
}

-- what is said of a text, by what the certificates are judged by and the first line
abbrev pub OfSweep : PackageList → CertKind → Bool → ℕ → (Basis → Header → Type 0) → Type 0
OfSweep r kind essential limit P = (basis : Basis) × IsBasisOf r kind essential basis
    × P basis (header_of kind essential limit (matter_of r basis))

-- The text is a whole certificate of these claims, of this kind and mode and with this limit: it is accepted, keeps the
-- numbers, and is one that a sweep may write.
abbrev pub IsSweep : PackageList → CertKind → Bool → ℕ → Limits → List Claim → List ℕ → Type 0
IsSweep r kind essential limit limits made text =
    OfSweep r kind essential limit (λ basis h. IsCompleted r limits text h made
    × IsPart (matter_of r basis) limits h text)

-- The text is what a sweep may have written so far, and one line more would pass a number.
abbrev pub IsFull : PackageList → CertKind → Bool → ℕ → Limits → What → List ℕ → Type 0
IsFull r kind essential limit limits what text =
    OfSweep r kind essential limit (λ basis h. IsStoppedBy (matter_of r basis) limits h text what)

-- The text is what a sweep may have written so far, perhaps with a front of one line more behind it.
abbrev pub IsCutSweep : PackageList → CertKind → Bool → ℕ → Limits → List ℕ → Type 0
IsCutSweep r kind essential limit limits text =
    OfSweep r kind essential limit (λ basis h. IsCutPart (matter_of r basis) limits h text)

-- The desk writes no longer. The file is as before, or holds what a sweep may have written so far, perhaps with a front
-- of one line more behind it. All other files are as before.
pub record LeavesPart (r : PackageList) (kind : CertKind) (essential : Bool) (limit : ℕ) (limits : Limits)
    (name : List ℕ) (old new : DeskView) : Type 0 where
  pub files : (new.files ≡ old.files) ⊎ ((text : List ℕ) × IsCutSweep r kind essential limit limits text
      × (new.files ≡ with_file old.files name text))
  pub not_writing : IsNotWriting new.mode
  pub counts : WriteCounts old new

-- When each answer is given, and what it leaves of the file. Want of memory may come in place of any answer.
abbrev pub SweepAnswers : PackageList → CertKind → Bool → ℕ → Limits → (name : List ℕ) → DeskView → DeskView
    → Result (List Claim) WorkError → Type 0
SweepAnswers r kind essential limit limits name old new (Ok made) = (text : List ℕ) × Holds name text Idle old new
    × IsSweep r kind essential limit limits made text
SweepAnswers r kind essential limit limits name old new (Err (TooLarge Variables)) = (new ≡ old)
    × PassesFirst r kind essential limits Variables
SweepAnswers r kind essential limit limits name old new (Err (TooLarge Clauses)) = (new ≡ old)
    × PassesFirst r kind essential limits Clauses
SweepAnswers r kind essential limit limits name old new (Err (TooLarge Literals)) = (new ≡ old)
    × PassesFirst r kind essential limits Literals
SweepAnswers r kind essential limit limits name old new (Err (TooLarge what)) = (text : List ℕ)
    × Holds name text Idle old new × IsFull r kind essential limit limits what text
SweepAnswers r kind essential limit limits name old new (Err WriteFault) = Rose old.write_faults new.write_faults
    × LeavesPart r kind essential limit limits name old new
SweepAnswers r kind essential limit limits name old new (Err NoMemory) =
    LeavesPart r kind essential limit limits name old new
SweepAnswers r kind essential limit limits name old new (Err ReadFault) = ⊥

-- The number that the input clauses pass first is told, but for want of memory.
abbrev pub TellsFirst : PackageList → CertKind → Bool → Limits → Result (List Claim) WorkError → Type 0
TellsFirst r kind essential limits result = (what : What) → PassesFirst r kind essential limits what
    → (result ≡ Err (TooLarge what)) ⊎ (result ≡ Err NoMemory)
