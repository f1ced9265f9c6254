-- What is left of a file of one question: a whole text, or what may be written so far.
use Rattle.std.proofs.Common.{◌≡◌, ◌⊎◌, ℕ, List, [], ◌∷◌, ◌++◌, length, inl, inr, Some, refl, ap, sym, ◌∙◌, append_assoc, arith}
use Rattle.std.proofs.lemmas.Grind.{flat_map-append}
use Rattle.std.proofs.lemmas.List.{append-nil, take_all}
use Rattle.dist_base.specs.Ascii.{line_feed}
use Rattle.dist_base.specs.Front.{IsFrontOf}
use Rattle.dist_outside.specs.DeskView.{DeskView}
use Rattle.dist_outside.specs.Files.{with_file}
use Rattle.dist_cert.specs.FileLines.{lines_text}
use Rattle.dist_cert.specs.Form.{record_text}
use Rattle.dist_cert.specs.Writing.{ended}
use Rattle.dist_cert.specs.declared.records.CertRecord.{CertRecord}
use Rattle.dist_cert.specs.declared.records.CertRecord.TheVariants.{End}
use Rattle.dist_findings.specs.AnswerFiles.{Inputs}
use Rattle.dist_line_write.specs.Script.{Script}
use Rattle.dist_inquiry.specs.Written.{Course, IsCutText, IsWholeText, LeavesCut}

all_of : (bytes : List ℕ) → IsFrontOf bytes bytes
all_of bytes = record { count = length bytes; within = omega arith; is = sym (take_all (length bytes) bytes (omega arith)) }

-- a whole text is its lines with the end, which is a front of one line more
pub whole_is_cut : (g : Script) (course : Course) (text : List ℕ) → IsWholeText g course text → IsCutText g course text
whole_is_cut g course text w =
    let one : CertRecord → List ℕ = λ s. record_text s ++ line_feed ∷ [] in
    let last : lines_text (w.lines ++ End ∷ []) ≡ lines_text w.lines ++ ended (record_text End) =
    flat_map-append one w.lines (End ∷ []) ∙ ap (λ (bytes : List ℕ). lines_text w.lines ++ bytes) (append-nil (one End)) in
    record {
      before = Some w.lines;
      written = (w.written, w.asked);
      cut = ended (record_text End);
      is = w.is ∙ ap (λ (bytes : List ℕ). g.first ++ line_feed ∷ bytes) last
          ∙ sym (append_assoc g.first (line_feed ∷ lines_text w.lines) (ended (record_text End)));
      cut_line = inr (record_text End, w.lines ++ End ∷ [], (End, inr (refl, w.decided), refl, refl), all_of (ended (record_text End)));
    }

-- what is left, by the clauses that the file is written for
pub leaves_cut : (Is : Inputs → Type 0) (g : Inputs → Script) (course : Inputs → Course) (name : List ℕ) (old new : DeskView)
    → ((basis : Inputs) × Is basis × LeavesCut (g basis) (course basis) name old new)
    → (new.files ≡ old.files) ⊎ ((text : List ℕ) × ((basis : Inputs) × Is basis × IsCutText (g basis) (course basis) text)
    × (new.files ≡ with_file old.files name text))
leaves_cut Is g course name old new (basis, are, left) = elim left.files [
  | inl same ↦ inl same
  | inr cut ↦ inr (cut.0, (basis, are, cut.1), cut.2)
]
