-- A law for writers: what the lines of known records need to be a part. All lines but the last are short enough.
use Rattle.std.proofs.Common.{◌≡◌, ◌≢◌, ⊎_elim, ℕ, ◌<◌, false, List, [], ◌∷◌, ◌++◌, length, refl, sym, subst}
use Rattle.std.proofs.Common.{append_assoc}
use Rattle.std.specs.List.{All, list_any}
use Rattle.std.proofs.lemmas.List.{append-nil}
use Rattle.std.proofs.lemmas.List.Elements.{All-nil, All-cons, All-head, All-tail}
use Rattle.dist_base.specs.Ascii.{line_feed}
use Rattle.dist_outside.specs.declared.limits.Limits.{Limits}
use Rattle.dist_cert.specs.declared.faults.CertCause.{CertCause}
use Rattle.dist_cert.specs.declared.faults.CertCause.TheVariants as causes
use Rattle.dist_cert.specs.declared.records.CertRecord.{CertRecord}
use Rattle.dist_cert.specs.declared.records.Header.{Header}
use Rattle.dist_cert.specs.Form.{record_text, HasForm, is_end, header_text, HasHeaderForm}
use Rattle.dist_cert.specs.Subject.{Matter}
use Rattle.dist_cert.specs.LineRules.{HasRecordFault}
use Rattle.dist_cert.specs.FileLines.{lines_text}
use Rattle.dist_cert.specs.Refusal.{certificate_text, Fits, HasFirstFault, HasLineFault}
use Rattle.dist_cert.specs.ClearFormsLaws.{FormsAreClear, clear_records}
use Rattle.dist_cert.specs.OneVerdictLaws.{one_line}
use Rattle.dist_cert.specs.ByRecordsLaws.{whole_line, within, same_step, no_end_in, AreSound}
use Rattle.dist_cert.specs.Part.{IsNextLine, IsLastTooLong, IsPartOf}

-- The line of this record has no fault behind these lines, whatever its length, and is one that a part may have next.
pub record IsLine (matter : Matter) (h : Header) (before : List CertRecord) (step : CertRecord) : Type 0 where
  pub form : HasForm (record_text step) step
  pub not_ended : list_any is_end before ≡ false
  pub faultless : (cause : CertCause) → ¬ HasRecordFault matter h before step cause
  pub next : IsNextLine matter h before step

-- the line, with its line feed, is within the limit
abbrev pub IsShortLine : Limits → CertRecord → Type 0
IsShortLine limits step = length (record_text step) < limits.record_line

-- lines one after another, all but the last within the limit
abbrev pub AreLines : Limits → Matter → Header → List CertRecord → List CertRecord → Type 0
AreLines limits matter h before [] = Unit {0}
AreLines limits matter h before (step ∷ steps) = IsLine matter h before step × (steps ≢ [] → IsShortLine limits step)
    × AreLines limits matter h (before ++ step ∷ []) steps

-- The first line has no fault, whatever its length.
pub record IsHeaderOf (matter : Matter) (h : Header) : Type 0 where
  pub form : HasHeaderForm (header_text h) h
  pub fits : Fits matter h

line-at : (limits : Limits) (matter : Matter) (h : Header) (before earlier : List CertRecord) (step : CertRecord)
    (after : List CertRecord) → AreLines limits matter h before (earlier ++ step ∷ after)
    → IsLine matter h (before ++ earlier) step × (after ≢ [] → IsShortLine limits step)
line-at limits matter h before [] step after all =
    (subst (λ b. IsLine matter h b step) (sym (append-nil before)) all.0, all.1)
line-at limits matter h before (x ∷ earlier) step after all =
    let there = line-at limits matter h (before ++ x ∷ []) earlier step after all.2 in
    (subst (λ b. IsLine matter h b step) (append_assoc before (x ∷ []) earlier) there.0, there.1)

all-formed : (limits : Limits) (matter : Matter) (h : Header) (before steps : List CertRecord)
    → AreLines limits matter h before steps → All (λ step. HasForm (record_text step) step) steps
all-formed limits matter h before [] all = All-nil (λ step. HasForm (record_text step) step)
all-formed limits matter h before (step ∷ steps) all =
    All-cons (λ s. HasForm (record_text s) s) step steps all.0.form
    (all-formed limits matter h (before ++ step ∷ []) steps all.2)

too-long-alone : FormsAreClear → (matter : Matter) (limits : Limits) (h : Header) (before : List CertRecord)
    (step : CertRecord) (more : List ℕ) → IsLine matter h before step
    → (cause : CertCause) → HasLineFault matter limits h before (record_text step ++ line_feed ∷ more) cause
    → cause ≡ causes.LineTooLong
too-long-alone clear matter limits h before step more line causes.LineTooLong f = refl
too-long-alone clear matter limits h before step more line causes.Truncated f =
    absurd (whole_line (record_text step) more f.0)
too-long-alone clear matter limits h before step more line causes.BadRecord f =
    absurd (⊎_elim (no_end_in before line.not_ended)
    (λ none. none step (subst (λ l. HasForm l step)
    (one_line (record_text step) f.0 more f.1 (clear.record_line step line.form) f.2.one_line f.2.ended).0
    line.form)) f.3)
too-long-alone clear matter limits h before step more line cause f =
    absurd (line.faultless cause (same_step (clear_records clear)
    (HasRecordFault matter h) before step more cause line.form f))

first-alone : FormsAreClear → (matter : Matter) (limits : Limits) (h : Header) (more : List ℕ) → IsHeaderOf matter h
    → (cause : CertCause) → HasFirstFault matter limits (header_text h ++ line_feed ∷ more) cause
    → cause ≡ causes.LineTooLong
first-alone clear matter limits h more header causes.LineTooLong f = refl
first-alone clear matter limits h more header causes.Truncated f = absurd (whole_line (header_text h) more f)
first-alone clear matter limits h more header causes.BadHeader f =
    absurd (f.3 h (subst (λ l. HasHeaderForm l h)
    (one_line (header_text h) f.0 more f.1 (clear.header_line h header.form) f.2.one_line f.2.ended).0 header.form)
    header.fits)
first-alone clear matter limits h more header cause f = absurd f

-- what is short and has something behind it is not too long
last-alone : {X : Type 0} (later : List X) (IsLong : Type 0) → (later ≢ [] → ¬ IsLong) → IsLong → later ≡ []
last-alone [] IsLong short long = refl
last-alone (x ∷ later) IsLong short long = absurd (short (λ e. cc) long)

first-last : FormsAreClear → (matter : Matter) (limits : Limits) (h : Header) (steps : List CertRecord)
    → IsHeaderOf matter h → (steps ≢ [] → length (header_text h) < limits.record_line)
    → (cause : CertCause) → HasFirstFault matter limits (header_text h ++ line_feed ∷ lines_text steps) cause
    → IsLastTooLong cause steps
first-last clear matter limits h steps header short cause f =
    let alone = first-alone clear matter limits h (lines_text steps) header cause f in (
      alone,
      last-alone steps (HasFirstFault matter limits (header_text h ++ line_feed ∷ lines_text steps) causes.LineTooLong)
          (λ some long. within limits.record_line (header_text h) (lines_text steps) (short some) long.1)
          (subst (λ c. HasFirstFault matter limits (header_text h ++ line_feed ∷ lines_text steps) c) alone f),
    )

later-last : FormsAreClear → (matter : Matter) (limits : Limits) (h : Header) (before : List CertRecord)
    (step : CertRecord) (after : List CertRecord) → IsLine matter h before step
    → (after ≢ [] → IsShortLine limits step) → (cause : CertCause)
    → HasLineFault matter limits h before (lines_text (step ∷ after)) cause → IsLastTooLong cause after
later-last clear matter limits h before step after line short cause f =
    let bytes : lines_text (step ∷ after) ≡ record_text step ++ line_feed ∷ lines_text after =
    append_assoc (record_text step) (line_feed ∷ []) (lines_text after) in
    let here = subst (λ b. HasLineFault matter limits h before b cause) bytes f in
    let alone = too-long-alone clear matter limits h before step (lines_text after) line cause here in (
      alone,
      last-alone after (HasLineFault matter limits h before (record_text step ++ line_feed ∷ lines_text after)
          causes.LineTooLong)
          (λ some long. within limits.record_line (record_text step) (lines_text after) (short some) long.1)
          (subst (λ c. HasLineFault matter limits h before (record_text step ++ line_feed ∷ lines_text after) c) alone
          here),
    )

-- The lines of records without faults, each of which a part may have next, are a part.
pub part_by_records : FormsAreClear → (matter : Matter) (limits : Limits) (h : Header) (steps : List CertRecord)
    → IsHeaderOf matter h
    → (steps ≢ [] → length (header_text h) < limits.record_line)
    → AreLines limits matter h [] steps
    → IsPartOf matter limits h (certificate_text h steps) steps
part_by_records clear matter limits h steps header short all = record {
  reads = record {
    text_is = sym (append-nil (certificate_text h steps));
    header = header.form;
    records = all-formed limits matter h [] steps all;
  };
  first = first-last clear matter limits h steps header short;
  later = λ before step after is cause f.
      let at = line-at limits matter h [] before step after
      (subst (λ (s : List CertRecord). AreLines limits matter h [] s) is all) in
      later-last clear matter limits h before step after at.0 at.1 cause f;
  next = λ before step after is.
      (line-at limits matter h [] before step after
      (subst (λ (s : List CertRecord). AreLines limits matter h [] s) is all)).0.next;
}

-- Where all of them are short, they are what an accepted text needs.
pub sound_by_lines : (limits : Limits) (matter : Matter) (h : Header) (before steps : List CertRecord)
    → AreLines limits matter h before steps → All (IsShortLine limits) steps → AreSound limits matter h before steps
sound_by_lines limits matter h before [] all short = tt
sound_by_lines limits matter h before (step ∷ steps) all short = (
  record {
    form = all.0.form;
    short = All-head (IsShortLine limits) step steps short;
    not_ended = all.0.not_ended;
    faultless = all.0.faultless;
  },
  sound_by_lines limits matter h (before ++ step ∷ []) steps all.2 (All-tail (IsShortLine limits) step steps short),
)
