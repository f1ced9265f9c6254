-- From what is answered of a file to its verdict.
use Rattle.std.proofs.Common.{ℕ, true, List, Option, Some, None, Ok, sym, subst}
use Rattle.dist_outside.specs.declared.limits.Limits.{Limits}
use Rattle.dist_cert.specs.declared.faults.CertFault.{CertFault}
use Rattle.dist_cert.specs.declared.faults.ReadCertError.TheVariants.{Bad}
use Rattle.dist_cert.specs.ClearFormsLaws.{FormsAreClear}
use Rattle.dist_judge.specs.Judging.{OfText, StopsWith}
use Rattle.dist_line_check.specs.ToldLaws.{bool-told, stable}
use Rattle.dist_space.specs.Space.{IsSpace, SpaceView}
use Rattle.dist_findings.specs.AnswerFiles.{files_of}
use Rattle.dist_findings.specs.Answers.{IsAnswered}
use Rattle.dist_findings.specs.FileAnswers.{FileAnswers}
use Rattle.dist_findings.specs.Findings.{findings}
use Rattle.dist_findings.specs.declared.file.Answered.{Answered}
use Rattle.dist_findings.specs.declared.file.Answered.TheVariants as answered
use Rattle.dist_findings.specs.declared.finding.Finding.{Finding}
use Rattle.dist_repair.specs.Answered.{Answers}
use Rattle.dist_repair.specs.NotesPrivate.{AreNotesOf, IsVerdictOf, NotesView, answer_of, has_answer}
use Rattle.dist_repair.specs.RepairFiles.{asked_by, repair_files}
use Rattle.dist_repair.specs.Verdicts.{AcceptedSays, IsHeaderOf, RepairAnswers, VerdictSays}
use Rattle.dist_repair.specs.declared.repair.Repair.{Repair}
use Rattle.dist_repair.specs.declared.verdict.RepairHeader.{RepairHeader}
use Rattle.dist_repair.specs.declared.verdict.RepairVerdict.{RepairVerdict}
use Rattle.dist_repair.specs.declared.verdict.RepairVerdict.TheVariants.{Accepted, Refused}
use Rattle.dist_repair.proofs.AcceptedLemmas.{decided-not-not}
use Rattle.dist_repair.proofs.AnswerLemmas.{answer-right, answer-there}

module _ (s : SpaceView) (forms : FormsAreClear) (limits : Limits) where
  abbrev pub AreNotes : List ℕ → List Finding → NotesView → Type 0
  AreNotes numbers found notes = AreNotesOf s (asked_by numbers) found notes

  -- the notes of an accepted file have an answer
  noted-answer : (text numbers : List ℕ) (notes : NotesView) → IsAnswered (repair_files s) limits text numbers (λ found. AreNotes numbers found notes)
      → IsAnswered (repair_files s) limits text numbers (λ found. Answers s (asked_by numbers) found (answer_of notes))
  noted-answer text numbers notes done = record {
    basis = done.basis;
    is_basis = done.is_basis;
    steps = done.steps;
    accepted = done.accepted;
    claims = answer-right s (asked_by numbers) (findings done.steps) notes done.claims
        (stable (bool-told (has_answer notes) true) (λ no. decided-not-not s forms done.basis limits text numbers done.steps done.accepted
        (λ decided. no (answer-there s (asked_by numbers) (findings done.steps) notes done.claims decided.0 decided.1))));
    numbers = done.numbers;
  }

  pub verdict-answers : (text : List ℕ) (done : Answered NotesView) (verdict : RepairVerdict) → IsVerdictOf done verdict
      → FileAnswers (repair_files s) limits AreNotes text (Ok done) → RepairAnswers s limits text (Ok verdict)
  verdict-answers text (answered.Accepted numbers notes) (Accepted h repair) is answers = (
    numbers.items,
    is.0,
    subst (λ (r : Repair). IsAnswered (repair_files s) limits text numbers.items (λ found. Answers s (asked_by numbers.items) found r)) (sym is.1)
        (noted-answer text numbers.items notes answers),
  )
  verdict-answers text (answered.Accepted numbers notes) (Refused fault) is answers = absurd is
  verdict-answers text (answered.Refused fault) (Accepted h repair) is answers = absurd is
  verdict-answers text (answered.Refused fault) (Refused other) is answers =
      subst (λ (f : CertFault). StopsWith (files_of (repair_files s)) limits text (Bad f)) (sym is) answers

-- what is told of a text tells this
pub of-text : {P Q : List ℕ → Type 0} (told : Option (List ℕ)) → ((text : List ℕ) → P text → Q text) → OfText told P → OfText told Q
of-text None map_it is = tt
of-text (Some text) map_it is = map_it text is

-- the law of accepted files
abbrev pub AcceptedHold : Type 0
AcceptedHold = (s : SpaceView) (limits : Limits) (text numbers : List ℕ) (h : RepairHeader) (repair : Repair) → IsSpace s → IsHeaderOf numbers h
    → IsAnswered (repair_files s) limits text numbers (λ found. Answers s (asked_by numbers) found repair) → AcceptedSays s h repair

pub verdict-says : AcceptedHold → (s : SpaceView) → IsSpace s → (limits : Limits) (text : List ℕ) (verdict : RepairVerdict)
    → RepairAnswers s limits text (Ok verdict) → VerdictSays s verdict
verdict-says law s space limits text (Accepted h repair) (numbers, header, answered) = law s limits text numbers h repair space header answered
verdict-says law s space limits text (Refused fault) is = tt
