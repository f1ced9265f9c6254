-- Line by line, what the lines of a file keep: of a part of a certificate, and of a file of one question.
use Rattle.std.proofs.Common.{◌≡◌, ◌≢◌, inl, ℕ, List, [], ◌∷◌, ◌++◌, sym, subst, append_assoc}
use Rattle.std.specs.List.{AllPairs, Contains}
use Rattle.dist_base.specs.Ascii.{line_feed}
use Rattle.dist_outside.specs.declared.limits.Limits.{Limits}
use Rattle.dist_cert.specs.declared.faults.CertCause.{CertCause}
use Rattle.dist_cert.specs.declared.faults.CertCause.TheVariants as causes
use Rattle.dist_cert.specs.declared.records.CertRecord.{CertRecord}
use Rattle.dist_cert.specs.declared.records.CertRecord.TheVariants.{Question, Derived, Refuted, Installation, Undecided, Strong, Challenged, End}
use Rattle.dist_cert.specs.declared.records.Header.{Header}
use Rattle.dist_cert.specs.ByRecordsLaws.{record_to_line}
use Rattle.dist_cert.specs.ClearFormsLaws.{FormsAreClear, clear_records, of_records}
use Rattle.dist_cert.specs.Form.{Word, record_text, HasForm}
use Rattle.dist_cert.specs.LineRules.{HasRecordFault}
use Rattle.dist_cert.specs.Part.{AreFewHints, AsksSome, IsNextDerived, IsNextLine, IsNextQuestion, IsPartOf}
use Rattle.dist_cert.specs.FileLines.{lines_text}
use Rattle.dist_cert.specs.Refusal.{HasLineFault}
use Rattle.dist_cert.specs.Subject.{Matter}
use Rattle.dist_cert.specs.GroupLaws.{all-at}

-- A derived line, an installation and an answer come to a question, one installation or answer at most to each; a claim
-- names no installation twice.
abbrev pub ComesNext : Matter → Header → List CertRecord → CertRecord → Type 0
ComesNext matter h before (Derived literals hints) = IsNextDerived matter h before literals × AreFewHints matter hints
ComesNext matter h before (Refuted hints) = AsksSome before × AreFewHints matter hints
ComesNext matter h before (Installation variables) = AsksSome before
ComesNext matter h before Undecided = AsksSome before
ComesNext matter h before (Strong p named on undecided) = AllPairs (λ m n. m ≢ n) named
ComesNext matter h before (Challenged p named by undecided) = AllPairs (λ m n. m ≢ n) named
ComesNext matter h before step = Unit {0}

-- The line has a form and no fault but its length, does not stand behind the end, and is one that may come next.
pub record IsKept (matter : Matter) (h : Header) (before : List CertRecord) (step : CertRecord) : Type 0 where
  pub form : HasForm (record_text step) step
  pub not_ended : ¬ Contains before End
  pub faultless : (cause : CertCause) → ¬ HasRecordFault matter h before step cause
  pub next : ComesNext matter h before step

abbrev pub AreKept : Matter → Header → List CertRecord → Type 0
AreKept matter h steps = (before : List CertRecord) (step : CertRecord) (after : List CertRecord) → steps ≡ before ++ step ∷ after → IsKept matter h before step

-- ---- a part of a certificate

next-comes : (matter : Matter) (h : Header) (before : List CertRecord) (step : CertRecord) → IsNextLine matter h before step → ComesNext matter h before step
next-comes matter h before (Derived literals hints) next = next
next-comes matter h before (Refuted hints) next = next
next-comes matter h before (Installation variables) next = next
next-comes matter h before Undecided next = next
next-comes matter h before (Strong p named on undecided) next = next
next-comes matter h before (Challenged p named by undecided) next = next.0
next-comes matter h before step next = tt

-- each question is one that a sweep may ask next
abbrev pub AreAskedInTurn : Matter → Header → List CertRecord → Type 0
AreAskedInTurn matter h steps = (before : List CertRecord) (question : List Word) (after : List CertRecord)
    → steps ≡ before ++ Question question ∷ after → IsNextQuestion matter h before question

not-both : causes.BadRecord ≡ causes.LineTooLong → ⊥
not-both e = cc

pub part-kept : FormsAreClear → (matter : Matter) (limits : Limits) (h : Header) (text : List ℕ) (steps : List CertRecord)
    → IsPartOf matter limits h text steps
    → AreKept matter h steps
part-kept clear matter limits h text steps part before step after is =
    let form = all-at (λ (s : CertRecord). HasForm (record_text s) s) steps before step after is part.reads.records in
    let begins = append_assoc (record_text step) (line_feed ∷ []) (lines_text after) in
    record {
      form = form;
      not_ended = λ ended. not-both (part.later before step after is causes.BadRecord
          (record_text step, lines_text after, record { ended = begins; one_line = clear.record_line step form }, inl ended)).0;
      faultless = λ cause fault.
          let same = part.later before step after is cause (subst (λ (t : List ℕ). HasLineFault matter limits h before t cause) (sym begins)
          (record_to_line (clear_records clear) (HasRecordFault matter h) limits before step (lines_text after) form (of_records matter h before step) cause
          fault)) in
          subst (λ (c : CertCause). HasRecordFault matter h before step c) same.0 fault;
      next = next-comes matter h before step (part.next before step after is);
    }

pub part-asked : (matter : Matter) (limits : Limits) (h : Header) (text : List ℕ) (steps : List CertRecord) → IsPartOf matter limits h text steps
    → AreAskedInTurn matter h steps
part-asked matter limits h text steps part before question after is = part.next before (Question question) after is
