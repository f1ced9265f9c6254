-- What a writer wrote is read back.
use Rattle.std.proofs.Common.{◌≡◌, ℕ, suc, ◌+◌, ◌-◌, ◌<◌, ◌≤◌, true, false, List, [], ◌∷◌, ◌++◌, All, length, refl, ap, sym, subst, ◌∙◌, arith, append_assoc}
use Rattle.std.proofs.Common.{length-append}
use Rattle.std.proofs.lemmas.List.Elements.{All-head, All-tail, All-nil}
use Rattle.dist_base.specs.Ascii.{line_feed}
use Rattle.dist_outside.specs.declared.limits.Limits.{Limits}
use Rattle.dist_cert.specs.declared.records.CertRecord.{CertRecord}
use Rattle.dist_cert.specs.declared.records.CertRecord.TheVariants.{End}
use Rattle.dist_cert.specs.declared.records.Header.{Header}
use Rattle.dist_cert.specs.Form.{record_text, HasForm, IsSmall, is_end, header_text, HasHeaderForm}
use Rattle.dist_cert.specs.FileLines.{lines_text}
use Rattle.dist_cert.specs.Refusal.{certificate_text}
use Rattle.dist_cert.specs.Reading.{ReaderView, KeepsLimits, IsHeaderNext, IsRecordNext, IsAtEnd, past_line}
use Rattle.dist_cert.specs.ReadBackLaws.{CanBeWritten, GivesRecords, GivesText}
use Rattle.dist_cert.proofs.ExactReader.{header_given, record_given, text_ends}
use Rattle.dist_cert.proofs.LineEnds.{past}
use Rattle.dist_cert.proofs.OneLine.{clear}

-- ---- one line, within both limits

keeps : (limits : Limits) (given : ℕ) (line more : List ℕ) → length line < limits.record_line → given + length line < limits.certificate
    → KeepsLimits limits given (line ++ line_feed ∷ more)
keeps limits given line more short room = record {
  whole = λ p. past (limits.certificate - given) line more (omega (arith, room)) p.in_line;
  line = λ t. past limits.record_line line more short t.1;
}

header_next : (r : ReaderView) (h : Header) (behind : List ℕ) → HasHeaderForm (header_text h) h → length (header_text h) < r.limits.record_line
    → r.given + length (header_text h) < r.limits.certificate → IsHeaderNext r (header_text h ++ line_feed ∷ behind) behind h
header_next r h behind form short room = record {
  limits = keeps r.limits r.given (header_text h) behind short room;
  line = header_text h;
  begins = record { ended = refl; one_line = clear.header_line h form };
  form = form;
}

record_next : (r : ReaderView) (step : CertRecord) (behind : List ℕ) → r.ended ≡ false → HasForm (record_text step) step
    → length (record_text step) < r.limits.record_line
    → r.given + length (record_text step) < r.limits.certificate → IsRecordNext r (record_text step ++ line_feed ∷ behind) behind step
record_next r step behind going form short room = record {
  limits = keeps r.limits r.given (record_text step) behind short room;
  not_ended = going;
  line = record_text step;
  begins = record { ended = refl; one_line = clear.record_line step form };
  form = form;
}

at_end : (r : ReaderView) → r.ended ≡ true → 0 < r.limits.record_line → r.given ≤ r.limits.certificate → IsAtEnd r []
at_end r over some room = record {
  limits = record { whole = λ p. omega (arith, p.passed, room); line = λ t. omega (arith, t.0, some) };
  ended = over;
  nothing = refl;
}

-- ---- all lines

small_end : HasForm (record_text End) End
small_end = record { text = refl; rules = tt; numbers = All-nil (λ w. IsSmall w.0) }

one_text : (step : CertRecord) (steps : List CertRecord) → lines_text (step ∷ steps) ≡ record_text step ++ line_feed ∷ lines_text steps
one_text step steps = append_assoc (record_text step) (line_feed ∷ []) (lines_text steps)

records_given : (steps : List CertRecord) (r : ReaderView) → r.ended ≡ false → All (λ step. HasForm (record_text step) step) steps
    → All (λ step. length (record_text step) < r.limits.record_line) steps → All (λ step. is_end step ≡ false) steps
    → length (record_text End) < r.limits.record_line
    → r.given + length (lines_text (steps ++ End ∷ [])) ≤ r.limits.certificate → GivesRecords r (lines_text (steps ++ End ∷ [])) (steps ++ End ∷ [])
records_given [] r going forms shorts none short room = (
  [],
  λ more answer. record_given r (lines_text (End ∷ [])) [] more End answer (record_next r End [] going small_end short (omega (arith, room))),
  λ held more answer. text_ends (record (past_line r held (record_text End)) { ended = true }) [] more answer
      (at_end (record (past_line r held (record_text End)) { ended = true }) refl (omega (arith, short)) (omega (arith, room))),
)
records_given (step ∷ steps) r going forms shorts none short room =
    let text = one_text step (steps ++ End ∷ []) in
    let size : length (lines_text (step ∷ steps ++ End ∷ [])) ≡ length (record_text step) + suc (length (lines_text (steps ++ End ∷ []))) = ap length text
    ∙ length-append (record_text step) (line_feed ∷ lines_text (steps ++ End ∷ [])) in
    let form = All-head (λ s. HasForm (record_text s) s) step steps forms in
    let small = All-head (λ s. length (record_text s) < r.limits.record_line) step steps shorts in (
      lines_text (steps ++ End ∷ []),
      λ more answer. record_given r (lines_text (step ∷ steps ++ End ∷ [])) (lines_text (steps ++ End ∷ [])) more step answer
          (subst (λ t. IsRecordNext r t (lines_text (steps ++ End ∷ [])) step) (sym text)
          (record_next r step (lines_text (steps ++ End ∷ [])) going form small (omega (arith, room, size)))),
      λ held. records_given steps (record (past_line r held (record_text step)) { ended = is_end step })
          (All-head (λ s. is_end s ≡ false) step steps none)
          (All-tail (λ s. HasForm (record_text s) s) step steps forms)
          (All-tail (λ s. length (record_text s) < r.limits.record_line) step steps shorts)
          (All-tail (λ s. is_end s ≡ false) step steps none) short (omega (arith, room, size)),
    )

pub text_given : (limits : Limits) (h : Header) (steps : List CertRecord) → CanBeWritten limits h steps
    → GivesText limits (certificate_text h (steps ++ End ∷ [])) h (steps ++ End ∷ [])
text_given limits h steps can =
    let r : ReaderView = record { limits = limits; held = []; given = 0; lines = 0; ended = false } in
    let size = length-append (header_text h) (line_feed ∷ lines_text (steps ++ End ∷ [])) in (
      lines_text (steps ++ End ∷ []),
      λ more answer. header_given r (certificate_text h (steps ++ End ∷ [])) (lines_text (steps ++ End ∷ [])) more h answer
          (header_next r h (lines_text (steps ++ End ∷ [])) can.header can.header_short (omega (arith, can.whole, size))),
      λ held. records_given steps (past_line r held (header_text h)) refl can.records can.records_short can.not_ended can.end_short
          (omega (arith, can.whole, size)),
    )
