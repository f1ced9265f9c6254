-- What putting the first line makes of a writer, and where it stops.
use Rattle.std.proofs.Common.{◌≡◌, inl, ℕ, ◌+◌, List, [], ◌∷◌, length, Result, Ok, Err, OnOk, OnErr, IfErr, refl, ap, ◌∙◌, arith}
use Rattle.std.proofs.Common.{length-append}
use Rattle.std.proofs.lemmas.List.Elements.{All-nil}
use Rattle.dist_outside.specs.DeskView.{DeskView, FileGrewByFront}
use Rattle.dist_outside.specs.declared.trouble.What.TheVariants.{RecordLine, Certificate}
use Rattle.dist_outside.specs.declared.trouble.WorkError.{WorkError}
use Rattle.dist_outside.specs.declared.trouble.WorkError.TheVariants.{WriteFault, TooLarge, NoMemory}
use Rattle.dist_cert.specs.PartByRecordsLaws.{IsShortLine}
use Rattle.dist_cert.specs.Writing.{WriterView, HasRoom, PutAnswers, WritesNothing, ended, after_line}
use Rattle.dist_line_write.specs.Script.{FirstMore, FirstStops}
use Rattle.dist_line_write.specs.ScriptLaws.{BeginsLaw}
use Rattle.dist_line_write.proofs.OneLine.{stopped-before, stopped-in}

-- no line stands behind it
line-more : (w after : WriterView) (line : List ℕ) → HasRoom w (ended line) → after ≡ after_line w (ended line) → FirstMore w after line
line-more w after line room counted g is nothing =
    let size = length-append g.first (10 ∷ []) in
    let same = ap (λ (l : List ℕ). length (ended l)) is in
    let limit = ap (λ (v : WriterView). v.line_limit) nothing in
    let whole = ap (λ (v : WriterView). v.whole_limit) nothing in
    let count = ap (λ (v : WriterView). v.written) nothing in
    record {
      written = record {
        short = All-nil (IsShortLine g.limits);
        first_short = omega (arith, room.line_within, size, same, limit);
        kept = record { count = omega arith; literals = omega arith };
        bytes = omega (arith, room.whole_within, same, whole, count);
      };
      stands = counted ∙ ap (λ (v : WriterView). after_line v (ended line)) nothing
          ∙ ap (λ (n : ℕ). record { line_limit = g.limits.record_line; whole_limit = g.limits.certificate; written = n })
          (let sum : 0 + length (ended line) ≡ length (ended g.first) = omega (arith, same) in sum);
    }

pub first-more : (w after : WriterView) (line : List ℕ) (old new : DeskView) (result : Result (Unit {0}) WorkError)
    → PutAnswers w (ended line) old new result → OnOk result (after ≡ after_line w (ended line)) → OnOk result (FirstMore w after line)
first-more w after line old new (Ok u) answers counted = line-more w after line answers counted
first-more w after line old new (Err error) answers counted = tt

pub first-stops : BeginsLaw → (w : WriterView) (line : List ℕ) (old new : DeskView) (result : Result (Unit {0}) WorkError)
    → PutAnswers w (ended line) old new result → WritesNothing old new result → OnErr result (FileGrewByFront (ended line) old new)
    → IfErr result (FirstStops w line old new)
first-stops begins w line old new (Ok u) answers nothing front = tt
first-stops begins w line old new (Err WriteFault) answers nothing front = λ g is none. stopped-in g line [] old new WriteFault front answers.rose
first-stops begins w line old new (Err NoMemory) answers nothing front = λ g is none. stopped-in g line [] old new NoMemory front tt
first-stops begins w line old new (Err (TooLarge RecordLine)) answers nothing front = λ g is none.
    stopped-before begins g line [] old new (TooLarge RecordLine) nothing (
      refl,
      inl (omega (arith, answers, ap (λ (v : WriterView). v.line_limit) none, ap (λ (l : List ℕ). length (ended l)) is)),
    )
first-stops begins w line old new (Err (TooLarge Certificate)) answers nothing front = λ g is none.
    stopped-before begins g line [] old new (TooLarge Certificate) nothing (
      refl,
      omega (
        arith,
        answers.whole_passed,
        ap (λ (v : WriterView). v.whole_limit) none,
        ap (λ (v : WriterView). v.written) none,
        ap (λ (l : List ℕ). length (ended l)) is,
      ),
    )
first-stops begins w line old new (Err error) answers nothing front = absurd answers
