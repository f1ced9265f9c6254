-- What putting a line makes of the lines before, and where it stops.
use Rattle.std.proofs.Common.{◌≡◌, inr, ℕ, ◌+◌, ◌<◌, ◌≤◌, List, [], ◌∷◌, ◌++◌, length, Result, Ok, Err, OnOk}
use Rattle.std.proofs.Common.{OnErr, IfErr, refl, ap, sym, subst, ◌∙◌, arith, length-append}
use Rattle.std.specs.List.{Any}
use Rattle.std.proofs.lemmas.List.{get_or_at}
use Rattle.std.proofs.lemmas.List.Elements.{All-push}
use Rattle.std.specs.Result.{IsErrAnd}
use Rattle.dist_base.specs.Front.{IsFrontOf}
use Rattle.dist_outside.specs.DeskView.{DeskView, FileGrew, FileGrewByFront}
use Rattle.dist_outside.specs.declared.trouble.What.TheVariants.{RecordLine, Certificate}
use Rattle.dist_outside.specs.declared.trouble.WorkError.{WorkError}
use Rattle.dist_outside.specs.declared.trouble.WorkError.TheVariants.{WriteFault, TooLarge, NoMemory}
use Rattle.dist_cert.specs.declared.records.CertRecord.{CertRecord}
use Rattle.dist_cert.specs.Form.{record_text}
use Rattle.dist_cert.specs.PartByRecordsLaws.{IsShortLine}
use Rattle.dist_cert.specs.FileLines.{file_text}
use Rattle.dist_cert.specs.Writing.{WriterView, HasRoom, PutAnswers, WritesNothing, ended, after_line}
use Rattle.dist_line_write.specs.Script.{KeepsLines, IsWriter, LineStopsBy, PutMore, PutStops, Script, StopsIn}
use Rattle.dist_line_write.specs.ScriptLaws.{text-push, BeginsLaw, by-exit}

-- ---- one line more

text-more : (first : List ℕ) (before : List CertRecord) (step : CertRecord)
    → length (file_text first (before ++ step ∷ [])) ≡ length (file_text first before) + length (ended (record_text step))
text-more first before step = ap length (text-push first before step) ∙ length-append (file_text first before) (ended (record_text step))

short-line : (g : Script) (step : CertRecord) (limit : ℕ) → limit ≡ g.limits.record_line → length (ended (record_text step)) ≤ limit
    → IsShortLine g.limits step
short-line g step limit is within = omega (arith, is, within, length-append (record_text step) (10 ∷ []))

writer-more : (g : Script) (before : List CertRecord) (step : CertRecord) (w after : WriterView) → IsWriter g before w
    → KeepsLines g.limits (before ++ step ∷ [])
    → HasRoom w (ended (record_text step)) → after ≡ after_line w (ended (record_text step)) → IsWriter g (before ++ step ∷ []) after
writer-more g before step w after writer kept room counted = record {
  written = record {
    short = All-push (IsShortLine g.limits) before step writer.written.short
        (short-line g step w.line_limit (ap (λ (v : WriterView). v.line_limit) writer.stands) room.line_within);
    first_short = writer.written.first_short;
    kept = kept;
    bytes = omega (
      arith,
      text-more g.first before step,
      room.whole_within,
      ap (λ (v : WriterView). v.whole_limit) writer.stands,
      ap (λ (v : WriterView). v.written) writer.stands,
    );
  };
  stands = counted ∙ ap (λ (v : WriterView). after_line v (ended (record_text step))) writer.stands
      ∙ ap (λ (n : ℕ). record { line_limit = g.limits.record_line; whole_limit = g.limits.certificate; written = n })
      (sym (text-more g.first before step));
}

pub put-more : (w after : WriterView) (step : CertRecord) (old new : DeskView) (result : Result (Unit {0}) WorkError)
    → PutAnswers w (ended (record_text step)) old new result
    → OnOk result (after ≡ after_line w (ended (record_text step))) → OnOk result (PutMore w after step)
put-more w after step old new (Ok u) answers counted = λ g before writer kept. writer-more g before step w after writer kept answers counted
put-more w after step old new (Err error) answers counted = tt

-- ---- where it stops

pub last-any : {X : Type 0} (P : X → Type 0) (xs : List X) (x : X) → P x → Any P (xs ++ x ∷ [])
last-any P xs x holds = (length xs, x, omega (arith, length-append xs (x ∷ [])), get_or_at xs x [] x (length xs) refl, holds)

none-of : (line : List ℕ) → IsFrontOf line []
none-of line = record { count = 0; within = omega arith; is = refl }

-- nothing of the line was written
pub stopped-before : BeginsLaw → (g : Script) (line : List ℕ) (lines : List CertRecord) (old new : DeskView) (error : WorkError) → new ≡ old
    → LineStopsBy g lines [] old new error → StopsIn g line lines old new error
stopped-before begins g line lines old new error same by = record {
  cut = [];
  grew = subst (λ (d : DeskView). FileGrew [] old d) (sym same) (begins old);
  is_front = none-of (ended line);
  by = by;
}

pub stopped-in : (g : Script) (line : List ℕ) (lines : List CertRecord) (old new : DeskView) (error : WorkError)
    (front : FileGrewByFront (ended line) old new)
    → LineStopsBy g lines front.front old new error → StopsIn g line lines old new error
stopped-in g line lines old new error front by = record { cut = front.front; grew = front.grew; is_front = front.is_front; by = by }

pub put-stops : BeginsLaw → (w : WriterView) (step : CertRecord) (old new : DeskView) (result : Result (Unit {0}) WorkError)
    → PutAnswers w (ended (record_text step)) old new result
    → WritesNothing old new result → OnErr result (FileGrewByFront (ended (record_text step)) old new) → IfErr result (PutStops w step old new)
put-stops begins w step old new (Ok u) answers nothing front = tt
put-stops begins w step old new (Err WriteFault) answers nothing front = λ g before writer.
    stopped-in g (record_text step) (before ++ step ∷ []) old new WriteFault front answers.rose
put-stops begins w step old new (Err NoMemory) answers nothing front = λ g before writer.
    stopped-in g (record_text step) (before ++ step ∷ []) old new NoMemory front tt
put-stops begins w step old new (Err (TooLarge RecordLine)) answers nothing front = λ g before writer.
    stopped-before begins g (record_text step) (before ++ step ∷ []) old new (TooLarge RecordLine) nothing (
      refl,
      inr (last-any (λ s. g.limits.record_line < length (ended (record_text s))) before step
          (omega (arith, answers, ap (λ (v : WriterView). v.line_limit) writer.stands))),
    )
put-stops begins w step old new (Err (TooLarge Certificate)) answers nothing front = λ g before writer.
    stopped-before begins g (record_text step) (before ++ step ∷ []) old new (TooLarge Certificate) nothing (
      refl,
      omega (
        arith,
        text-more g.first before step,
        answers.whole_passed,
        ap (λ (v : WriterView). v.whole_limit) writer.stands,
        ap (λ (v : WriterView). v.written) writer.stands,
      ),
    )
put-stops begins w step old new (Err error) answers nothing front = absurd answers

-- ---- exits by `?`

-- want of memory before a line was put
pub no-memory : {X : Type 0} → BeginsLaw → (w : WriterView) (step : CertRecord) (old : DeskView) (result : Result X WorkError)
    → IsErrAnd result (λ e. e ≡ NoMemory) → IfErr result (PutStops w step old old)
no-memory {X} begins w step old result is =
    by-exit (λ (r : Result X WorkError). IfErr r (PutStops w step old old)) result NoMemory is
    (λ g before writer. stopped-before begins g (record_text step) (before ++ step ∷ []) old old NoMemory refl tt)
