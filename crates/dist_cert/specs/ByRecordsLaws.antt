-- A law for writers: what the lines of known records need to be accepted, and how a bad one is refused. Where a line is
-- the text of a record and short enough, and no `e` line stands before it, its faults are those of its record.
use Rattle.std.proofs.Common.{Bool, true, false, ◌||◌, ◌≡◌, ◌≢◌, ⊎_elim, inl, inr, ℕ, zero, suc, ◌+◌, ◌<◌, List, []}
use Rattle.std.proofs.Common.{◌∷◌, ◌++◌, length, get_or, take, refl, ap, sym, subst, ◌∙◌, append_assoc, arith}
use Rattle.std.proofs.Common.{length-append}
use Rattle.std.specs.List.{All, Contains, list_any}
use Rattle.std.proofs.lemmas.Bool.{true≢false}
use Rattle.std.proofs.lemmas.List.{append-nil}
use Rattle.std.proofs.lemmas.List.Elements.{All-nil, All-cons, All-tail}
use Rattle.dist_base.specs.Ascii.{line_feed}
use Rattle.dist_outside.specs.declared.limits.Limits.{Limits}
use Rattle.dist_cert.specs.declared.faults.CertCause.{CertCause}
use Rattle.dist_cert.specs.declared.faults.CertCause.TheVariants as causes
use Rattle.dist_cert.specs.declared.records.CertRecord.{CertRecord}
use Rattle.dist_cert.specs.declared.records.CertRecord.TheVariants.{End}
use Rattle.dist_cert.specs.declared.records.Header.{Header}
use Rattle.dist_cert.specs.Form.{record_text, HasForm, is_end, header_text, HasHeaderForm}
use Rattle.dist_cert.specs.Subject.{Matter}
use Rattle.dist_cert.specs.LineRules.{HasRecordFault}
use Rattle.dist_cert.specs.FileLines.{IsFaulty, IsOneLine, lines_text, in_order, IsFirstOf, HasFaultBehind}
use Rattle.dist_cert.specs.Refusal.{certificate_text, Fits, HasFirstFault, HasLineFault, AreFaultless, Refusal}
use Rattle.dist_cert.specs.Accepted.{claims_in, Accepted}
use Rattle.dist_cert.specs.ClearFormsLaws.{AreOfRecords, FormsAreClear, RecordsAreClear, clear_records, of_records}
use Rattle.dist_cert.specs.OneVerdictLaws.{one_line, first_line_of}

-- ---- a line that is whole and short

pub whole_line : (line more : List ℕ) → ¬ IsOneLine (line ++ line_feed ∷ more)
whole_line [] more h = h 0 0 (omega arith) refl
whole_line (x ∷ line) more h = whole_line line more (All-tail (λ byte. byte ≢ line_feed) x (line ++ line_feed ∷ more) h)

pub within : (limit : ℕ) (line more : List ℕ) → length line < limit
    → ¬ IsOneLine (take limit (line ++ line_feed ∷ more))
within zero line more short h = omega (arith, short)
within (suc limit) [] more short h = h 0 0 (omega arith) refl
within (suc limit) (x ∷ line) more short h =
    within limit line more (omega (arith, short))
    (All-tail (λ byte. byte ≢ line_feed) x (take limit (line ++ line_feed ∷ more)) h)

-- ---- the faults of such a line

-- A line with this form has the faults of its record and no other one.
pub same_step : RecordsAreClear → (HasFault : List CertRecord → CertRecord → CertCause → Type 0)
    (before : List CertRecord) (step : CertRecord) (more : List ℕ) (cause : CertCause) → HasForm (record_text step) step
    → IsFaulty HasFault before (record_text step ++ line_feed ∷ more) cause → HasFault before step cause
same_step clear HasFault before step more cause form bad =
    let line = bad.0 in
    let other = bad.2 in
    let same = one_line (record_text step) line more bad.1 (clear.record_line step form) bad.3.one_line bad.3.ended in
    let one : step ≡ other = clear.one_record line step other (subst (λ l. HasForm l step) same.0 form) bad.4 in
    subst (λ s. HasFault before s cause) (sym one) bad.5

pub line_to_record : RecordsAreClear → (HasFault : List CertRecord → CertRecord → CertCause → Type 0) (limits : Limits)
    (before : List CertRecord) (step : CertRecord) (more : List ℕ) → HasForm (record_text step) step
    → (¬ Contains before End) → length (record_text step) < limits.record_line → (cause : CertCause)
    → HasFaultBehind HasFault limits before (record_text step ++ line_feed ∷ more) cause → HasFault before step cause
line_to_record clear HasFault limits before step more form no_end short causes.LineTooLong f =
    absurd (within limits.record_line (record_text step) more short f.1)
line_to_record clear HasFault limits before step more form no_end short causes.Truncated f =
    absurd (whole_line (record_text step) more f.0)
line_to_record clear HasFault limits before step more form no_end short causes.BadRecord f =
    absurd (⊎_elim no_end (λ none. none step (subst (λ l. HasForm l step)
    (one_line (record_text step) f.0 more f.1 (clear.record_line step form) f.2.one_line f.2.ended).0 form)) f.3)
line_to_record clear HasFault limits before step more form no_end short cause f =
    same_step clear HasFault before step more cause form f

pub record_to_line : RecordsAreClear → (HasFault : List CertRecord → CertRecord → CertCause → Type 0) (limits : Limits)
    (before : List CertRecord) (step : CertRecord) (more : List ℕ) → HasForm (record_text step) step
    → AreOfRecords (HasFault before step) → (cause : CertCause) → HasFault before step cause
    → HasFaultBehind HasFault limits before (record_text step ++ line_feed ∷ more) cause
record_to_line clear HasFault limits before step more form of causes.LineTooLong f = absurd (of.not_long f)
record_to_line clear HasFault limits before step more form of causes.Truncated f = absurd (of.not_cut f)
record_to_line clear HasFault limits before step more form of causes.BadRecord f = absurd (of.not_bad f)
record_to_line clear HasFault limits before step more form of cause f =
    (record_text step, more, step, record { ended = refl; one_line = clear.record_line step form }, form, f)

-- ---- lines of known records

or_right : (x y : Bool) → (x || y) ≡ false → y ≡ false
or_right true y e = absurd (true≢false e)
or_right false y e = e

no_end_at : (step : CertRecord) (before : List CertRecord) → (list_any is_end before ≡ false → ¬ Contains before End)
    → list_any is_end (step ∷ before) ≡ false
    → (k : ℕ) → k < length (step ∷ before) → get_or (step ∷ before) k End ≡ End → ⊥
no_end_at step before later none zero within e =
    true≢false (ap (λ r. is_end r || list_any is_end before) (sym e) ∙ none)
no_end_at step before later none (suc k) within e =
    later (or_right (is_end step) (list_any is_end before) none) (k, omega (arith, within), e)

pub no_end_in : (before : List CertRecord) → list_any is_end before ≡ false → ¬ Contains before End
no_end_in [] none h = omega (arith, h.1)
no_end_in (step ∷ before) none h = no_end_at step before (no_end_in before) none h.0 h.1 h.2

-- The line of this record has no fault behind these lines.
pub record IsSound (limits : Limits) (matter : Matter) (h : Header) (before : List CertRecord)
    (step : CertRecord) : Type 0 where
  pub form : HasForm (record_text step) step
  pub short : length (record_text step) < limits.record_line
  pub not_ended : list_any is_end before ≡ false
  pub faultless : (cause : CertCause) → ¬ HasRecordFault matter h before step cause

abbrev pub AreSound : Limits → Matter → Header → List CertRecord → List CertRecord → Type 0
AreSound limits matter h before [] = Unit {0}
AreSound limits matter h before (step ∷ steps) = IsSound limits matter h before step
    × AreSound limits matter h (before ++ step ∷ []) steps

not_among : (earlier : List CertRecord) (step : CertRecord) (others : List CertRecord) → [] ≡ earlier ++ step ∷ others
    → ⊥
not_among earlier step others e = let n = ap length e in omega (arith, n, length-append earlier (step ∷ others))

head_or : CertRecord → List CertRecord → CertRecord
head_or d [] = d
head_or d (x ∷ xs) = x

tail_of : List CertRecord → List CertRecord
tail_of [] = []
tail_of (x ∷ xs) = xs

sound_at : (limits : Limits) (matter : Matter) (h : Header) (before steps earlier : List CertRecord) (step : CertRecord)
    (others : List CertRecord) → steps ≡ earlier ++ step ∷ others
    → AreSound limits matter h before steps → IsSound limits matter h (before ++ earlier) step
unfolding head_or tail_of
sound_at limits matter h before [] earlier step others e all = absurd (not_among earlier step others e)
sound_at limits matter h before (s ∷ steps) [] step others e all =
    subst (λ b. IsSound limits matter h b step) (sym (append-nil before))
    (subst (λ r. IsSound limits matter h before r) (ap (head_or s) e) all.0)
sound_at limits matter h before (s ∷ steps) (x ∷ earlier) step others e all =
    subst (λ b. IsSound limits matter h b step) (append_assoc before (x ∷ []) earlier)
    (subst (λ r. IsSound limits matter h (before ++ r ∷ [] ++ earlier) step) (ap (head_or s) e)
    (sound_at limits matter h (before ++ s ∷ []) steps earlier step others (ap tail_of e) all.1))

forms_of : (limits : Limits) (matter : Matter) (h : Header) (before steps : List CertRecord)
    → AreSound limits matter h before steps → All (λ step. HasForm (record_text step) step) steps
forms_of limits matter h before [] all = All-nil (λ step. HasForm (record_text step) step)
forms_of limits matter h before (step ∷ steps) all =
    All-cons (λ s. HasForm (record_text s) s) step steps all.0.form
    (forms_of limits matter h (before ++ step ∷ []) steps all.1)

-- The first line has no fault.
pub record IsSoundHeader (matter : Matter) (limits : Limits) (h : Header) : Type 0 where
  pub form : HasHeaderForm (header_text h) h
  pub fits : Fits matter h
  pub short : length (header_text h) < limits.record_line

first_sound : FormsAreClear → (matter : Matter) (limits : Limits) (h : Header) (more : List ℕ)
    → IsSoundHeader matter limits h → (cause : CertCause)
    → ¬ HasFirstFault matter limits (header_text h ++ line_feed ∷ more) cause
first_sound clear matter limits h more sound causes.LineTooLong f =
    within limits.record_line (header_text h) more sound.short f.1
first_sound clear matter limits h more sound causes.Truncated f = whole_line (header_text h) more f
first_sound clear matter limits h more sound causes.BadHeader f =
    f.3 h (subst (λ l. HasHeaderForm l h) (one_line (header_text h) f.0 more f.1 (clear.header_line h sound.form)
    f.2.one_line f.2.ended).0 sound.form) sound.fits
first_sound clear matter limits h more sound cause f = f

sound_lines : FormsAreClear → (matter : Matter) (limits : Limits) (h : Header) (before : List CertRecord)
    (rest : List ℕ) → IsSoundHeader matter limits h
    → AreSound limits matter h [] before
    → AreFaultless matter limits (certificate_text h before ++ rest) h before rest
sound_lines clear matter limits h before rest sound all = record {
  reads = record {
    text_is = refl;
    header = sound.form;
    records = forms_of limits matter h [] before all;
  };
  first = λ cause f. first_sound clear matter limits h (lines_text before ++ rest) sound cause
      (subst (λ text. HasFirstFault matter limits text cause)
      (append_assoc (header_text h) (line_feed ∷ lines_text before) rest) f);
  later = λ earlier step others e cause f.
      let one = sound_at limits matter h [] before earlier step others e all in
      one.faultless cause (line_to_record (clear_records clear) (HasRecordFault matter h) limits earlier step
      (lines_text others ++ rest) one.form
      (no_end_in earlier one.not_ended) one.short cause
      (subst (λ bytes. HasLineFault matter limits h earlier bytes cause) (first_line_of step others rest) f));
}

pub map_first : (Has Have : CertCause → Type 0) → ((cause : CertCause) → Has cause → Have cause)
    → ((cause : CertCause) → Have cause → Has cause) → (list : List CertCause) (cause : CertCause)
    → IsFirstOf list Has cause → IsFirstOf list Have cause
map_first Has Have to back [] cause h = h
map_first Has Have to back (next ∷ later) cause h =
    ⊎_elim (λ x. inl (to next x.0, x.1)) (λ x. inr
    (λ have. x.0 (back next have), map_first Has Have to back later cause x.1)) h

-- The line of a record is refused with the record's first fault, behind lines without one.
pub refused_by_record : FormsAreClear → (matter : Matter) (limits : Limits) (h : Header) (before : List CertRecord)
    (step : CertRecord) (more : List ℕ) (cause : CertCause) → IsSoundHeader matter limits h
    → AreSound limits matter h [] before → HasForm (record_text step) step
    → length (record_text step) < limits.record_line → list_any is_end before ≡ false
    → IsFirstOf in_order (HasRecordFault matter h before step) cause
    → Refusal matter limits (certificate_text h before ++ (record_text step ++ line_feed ∷ more))
    (record { line = length before + 2; cause = cause })
refused_by_record clear matter limits h before step more cause sound all form short not_ended first = inr (
  h,
  before,
  record_text step ++ line_feed ∷ more,
  record {
    faultless = sound_lines clear matter limits h before (record_text step ++ line_feed ∷ more) sound all;
    line = refl;
    cause = map_first (HasRecordFault matter h before step)
        (HasLineFault matter limits h before (record_text step ++ line_feed ∷ more))
        (record_to_line (clear_records clear) (HasRecordFault matter h) limits before step more form
        (of_records matter h before step))
        (line_to_record (clear_records clear) (HasRecordFault matter h) limits before step more form
        (no_end_in before not_ended) short) in_order
        cause first;
  },
)

nothing_begins : (line more : List ℕ) → [] ≡ line ++ line_feed ∷ more → ⊥
nothing_begins line more e = let n = ap length e in omega (arith, n, length-append line (line_feed ∷ more))

end_sound : (matter : Matter) (limits : Limits) (h : Header) (steps : List CertRecord) → 0 < limits.record_line
    → Contains steps End → (cause : CertCause) → ¬ HasLineFault matter limits h steps [] cause
end_sound matter limits h steps some ended causes.LineTooLong f = omega (arith, some, f.0)
end_sound matter limits h steps some ended causes.Truncated f = ⊎_elim (λ other. other refl) (λ none. none ended) f.1
end_sound matter limits h steps some ended causes.BadRecord f = nothing_begins f.0 f.1 f.2.ended
end_sound matter limits h steps some ended cause f = nothing_begins f.0 f.1 f.3.ended

-- The lines of records without faults, the last of which is the end, are accepted.
pub accepted_by_records : FormsAreClear → (matter : Matter) (limits : Limits) (h : Header) (steps : List CertRecord)
    → IsSoundHeader matter limits h
    → AreSound limits matter h [] steps → Contains steps End
    → Accepted matter limits (certificate_text h steps ++ []) h (claims_in steps)
accepted_by_records clear matter limits h steps sound all ended = (
  steps,
  record {
    faultless = sound_lines clear matter limits h steps [] sound all;
    ends = end_sound matter limits h steps (omega (arith, sound.short)) ended;
  },
  refl,
)
