-- Laws of what was written so far: which questions lines ask, which lines may come, and where the writing stops behind
-- more lines. Proofs cite them, those of the crates above too.
use Rattle.std.proofs.Common.{◌≡◌, ◌⊎◌, inl, inr, ℕ, ◌+◌, ◌≤◌, Bool, true, false, List, [], ◌∷◌, ◌++◌, Result, Ok, Err}
use Rattle.std.proofs.Common.{refl, ap, sym, subst, ◌∙◌, append_assoc, append-nil, arith}
use Rattle.std.specs.List.{AllPass}
use Rattle.std.specs.Result.{IsErrAnd}
use Rattle.std.proofs.lemmas.Bool.{cases_lt, false≢true}
use Rattle.std.proofs.lemmas.Grind.{flat_map-append}
use Rattle.std.proofs.lemmas.List.Elements.{All-head, All-tail}
use Rattle.dist_base.specs.Ascii.{line_feed}
use Rattle.dist_outside.specs.Counts.{Rose}
use Rattle.dist_outside.specs.DeskView.{DeskView, FileGrew, WriteCounts}
use Rattle.dist_outside.specs.declared.trouble.WorkError.{WorkError}
use Rattle.dist_outside.specs.declared.trouble.WorkError.TheVariants.{ReadFault, WriteFault, TooLarge, NoMemory}
use Rattle.dist_solver.specs.declared.answers.Answer.{Answer}
use Rattle.dist_solver.specs.declared.answers.Answer.TheVariants as answers
use Rattle.dist_cert.specs.declared.records.CertRecord.{CertRecord}
use Rattle.dist_cert.specs.declared.records.CertRecord.TheVariants.{Question, Derived}
use Rattle.dist_cert.specs.FileLines.{file_text, lines_text}
use Rattle.dist_cert.specs.Form.{Word, record_text}
use Rattle.dist_cert.specs.Writing.{WriterView, ended}
use Rattle.dist_line_write.specs.Asking.{is_derived, question_lines}
use Rattle.dist_line_write.specs.Script.{Script, Asks, MayAsk, AreAsked, AllNext, IsLine, IsWriter, IsCutOff}
use Rattle.dist_line_write.specs.Script.{KeepsNumbers}
use Rattle.dist_line_write.specs.Script.{LineStopsBy, MayCome, NoQuestion, OnlyThis, Stops, StopsBy, StopsIn}
use Rattle.dist_line_write.specs.Words.{closing_line}

-- ---- the text of lines

pub lines-more : (lines more : List CertRecord) → lines_text (lines ++ more) ≡ lines_text lines ++ lines_text more
lines-more lines more = flat_map-append (λ step. record_text step ++ line_feed ∷ []) lines more

pub one-line : (step : CertRecord) → lines_text (step ∷ []) ≡ ended (record_text step)
one-line step = append-nil (record_text step ++ line_feed ∷ [])

pub text-push : (first : List ℕ) (before : List CertRecord) (step : CertRecord)
    → file_text first (before ++ step ∷ []) ≡ file_text first before ++ ended (record_text step)
text-push first before step =
    ap (λ (text : List ℕ). first ++ line_feed ∷ text)
    (lines-more before (step ∷ []) ∙ ap (λ (text : List ℕ). lines_text before ++ text) (one-line step))
    ∙ sym (append_assoc first (line_feed ∷ lines_text before) (ended (record_text step)))

-- ---- a file that grows

abbrev pub BeginsLaw : Type 0
BeginsLaw = (desk : DeskView) → FileGrew [] desk desk

abbrev pub TwiceLaw : Type 0
TwiceLaw = (first second : List ℕ) (old mid new : DeskView) → FileGrew first old mid → FileGrew second mid new
    → FileGrew (first ++ second) old new

pub two-grow : TwiceLaw → (first second : List ℕ) (old mid new : DeskView) → FileGrew first old mid
    → FileGrew second mid new → (bytes : List ℕ)
    × FileGrew bytes old new
two-grow twice first second old mid new a b = (first ++ second, twice first second old mid new a b)

pub rose-later : (old mid new : ℕ) → old ≤ mid → mid ≤ new → Rose mid new → Rose old new
rose-later old mid new first second (inl less) = inl (omega arith)
rose-later old mid new first second (inr full) = elim (cases_lt old mid) [
  | inl less ↦ inl (omega arith)
  | inr past ↦ inr (omega arith)
]

-- a clause at the error that a `?` hands on
pub by-exit : {X : Type 0} (P : Result X WorkError → Type 0) (result : Result X WorkError) (error : WorkError)
    → IsErrAnd result (λ e. e ≡ error)
    → P (Err error) → P result
by-exit P (Ok x) error is holds = absurd is
by-exit P (Err e) error is holds = subst (λ y. P (Err y)) (sym is) holds

-- ---- lines that may come next

split-next : (g : Script) (before earlier : List CertRecord) (step : CertRecord) (later : List CertRecord)
    → AllNext g before (earlier ++ step ∷ later) → IsLine g (before ++ earlier) step
split-next g before [] step later all = subst (λ b. IsLine g b step) (sym (append-nil before)) all.0
split-next g before (x ∷ earlier) step later all =
    subst (λ b. IsLine g b step) (append_assoc before (x ∷ []) earlier)
    (split-next g (before ++ x ∷ []) earlier step later all.1)

pub next-at : (g : Script) (before steps earlier : List CertRecord) (step : CertRecord) (later : List CertRecord)
    → steps ≡ earlier ++ step ∷ later → AllNext g before steps → IsLine g (before ++ earlier) step
next-at g before steps earlier step later is all =
    split-next g before earlier step later (subst (λ (ls : List CertRecord). AllNext g before ls) is all)

pub next-join : (g : Script) (before steps more : List CertRecord) → AllNext g before steps
    → AllNext g (before ++ steps) more → AllNext g before (steps ++ more)
next-join g before [] more all rest = subst (λ b. AllNext g b more) (append-nil before) rest
next-join g before (x ∷ steps) more all rest = (
  all.0,
  next-join g (before ++ x ∷ []) steps more all.1
      (subst (λ b. AllNext g b more) (sym (append_assoc before (x ∷ []) steps)) rest),
)

pub next-behind : (g : Script) (before steps more : List CertRecord) → AllNext g before (steps ++ more)
    → AllNext g (before ++ steps) more
next-behind g before [] more all = subst (λ b. AllNext g b more) (sym (append-nil before)) all
next-behind g before (x ∷ steps) more all =
    subst (λ b. AllNext g b more) (append_assoc before (x ∷ []) steps) (next-behind g (before ++ x ∷ []) steps more
    all.1)

pub next-front : (g : Script) (before steps more : List CertRecord) → AllNext g before (steps ++ more)
    → AllNext g before steps
next-front g before [] more all = tt
next-front g before (x ∷ steps) more all = (all.0, next-front g (before ++ x ∷ []) steps more all.1)

-- ---- which questions lines ask

-- derived lines ask nothing
pub none-asked : (asks : Asks) (before steps : List CertRecord) → AllPass is_derived steps → AreAsked asks before steps
none-asked asks before [] all = tt
none-asked asks before (Derived literals hints ∷ steps) all = (
  tt,
  none-asked asks (before ++ Derived literals hints ∷ []) steps
      (All-tail (λ s. is_derived s ≡ true) (Derived literals hints) steps all),
)
none-asked asks before (step ∷ steps) all = absurd (false≢true (All-head (λ s. is_derived s ≡ true) step steps all))

-- the line of an answer asks nothing
closing-asks : (asks : Asks) (before : List CertRecord) (answer : Answer)
    → AreAsked asks before (closing_line answer ∷ [])
closing-asks asks before (answers.Found values) = (tt, tt)
closing-asks asks before (answers.Refuted hints) = (tt, tt)
closing-asks asks before answers.Undecided = (tt, tt)

pub asked-join : (asks : Asks) (before steps more : List CertRecord) → AreAsked asks before steps
    → AreAsked asks (before ++ steps) more → AreAsked asks before (steps ++ more)
asked-join asks before [] more first rest = subst (λ b. AreAsked asks b more) (append-nil before) rest
asked-join asks before (x ∷ steps) more first rest = (
  first.0,
  asked-join asks (before ++ x ∷ []) steps more first.1
      (subst (λ b. AreAsked asks b more) (sym (append_assoc before (x ∷ []) steps)) rest),
)

-- the lines of a question ask this one alone
pub question-asked : (asks : Asks) (before : List CertRecord) (question : List Word) (between : List CertRecord)
    (answer : Answer) → asks before question → AllPass is_derived between
    → AreAsked asks before (question_lines question between (closing_line answer))
question-asked asks before question between answer may all = (
  may,
  asked-join asks (before ++ Question question ∷ []) between (closing_line answer ∷ [])
      (none-asked asks (before ++ Question question ∷ []) between all)
      (closing-asks asks ((before ++ Question question ∷ []) ++ between) answer),
)

-- lines of which each may be asked, and then one more
pub lines-asked : (asks : Asks) (before : List CertRecord) (question : List Word) (between : List CertRecord)
    (answer : Answer) → AreAsked asks [] before → asks before question → AllPass is_derived between
    → AreAsked asks [] (before ++ question_lines question between (closing_line answer))
lines-asked asks before question between answer first may all =
    asked-join asks [] before (question_lines question between (closing_line answer)) first
    (question-asked asks before question between answer may all)

-- ---- more questions may be asked

abbrev pub AllowsMore : Asks → Asks → Type 0
AllowsMore asks wider = (before : List CertRecord) (question : List Word) → asks before question → wider before question

pub may-wider : (asks wider : Asks) → AllowsMore asks wider → (before : List CertRecord) (step : CertRecord)
    → MayAsk asks before step → MayAsk wider before step
may-wider asks wider more before (Question question) may = more before question may
may-wider asks wider more before step may = tt

pub asked-wider : (asks wider : Asks) → AllowsMore asks wider → (before steps : List CertRecord)
    → AreAsked asks before steps → AreAsked wider before steps
asked-wider asks wider more before [] all = tt
asked-wider asks wider more before (step ∷ steps) all =
    (may-wider asks wider more before step all.0, asked-wider asks wider more (before ++ step ∷ []) steps all.1)

come-wider : (g : Script) (asks wider : Asks) → AllowsMore asks wider → (before : List CertRecord) (step : CertRecord)
    → MayCome g asks before step → MayCome g wider before step
come-wider g asks wider more before step may = (may.0, may-wider asks wider more before step may.1)

cut-wider : (g : Script) (asks wider : Asks) → AllowsMore asks wider → (lines : List CertRecord) (cut : List ℕ)
    → (cut ≡ []) ⊎ IsCutOff g asks lines cut → (cut ≡ []) ⊎ IsCutOff g wider lines cut
cut-wider g asks wider more lines cut (inl none) = inl none
cut-wider g asks wider more lines cut (inr off) =
    inr (off.0, come-wider g asks wider more lines off.0 off.1, off.2)

by-wider : (g : Script) (asks wider : Asks) → AllowsMore asks wider → (lines : List CertRecord) (cut : List ℕ)
    (old new : DeskView) (error : WorkError) → StopsBy g asks lines cut old new error
    → StopsBy g wider lines cut old new error
by-wider g asks wider more lines cut old new WriteFault by = by
by-wider g asks wider more lines cut old new (TooLarge what) by =
    (by.0, (by.1.0, come-wider g asks wider more lines by.1.0 by.1.1, by.1.2))
by-wider g asks wider more lines cut old new NoMemory by = tt
by-wider g asks wider more lines cut old new ReadFault by = by

pub stops-wider : (g : Script) (asks wider : Asks) → AllowsMore asks wider → (before : List CertRecord)
    (old new : DeskView) (error : WorkError) → Stops g asks before old new error → Stops g wider before old new error
stops-wider g asks wider more before old new error stops = record {
  added = stops.added;
  cut = stops.cut;
  written = stops.written;
  next = stops.next;
  asked = asked-wider asks wider more before stops.added stops.asked;
  grew = stops.grew;
  cut_off = cut-wider g asks wider more (before ++ stops.added) stops.cut stops.cut_off;
  by = by-wider g asks wider more (before ++ stops.added) stops.cut old new error stops.by;
}

abbrev words-of : CertRecord → List Word
words-of (Question words) = words
words-of step = []

-- where a question may be asked, so may this question alone
pub only-this : (asks : Asks) (before : List CertRecord) (question : List Word) → asks before question
    → AllowsMore (OnlyThis before (Question question)) asks
only-this asks before question may b q this =
    subst (λ ls. asks ls q) (sym this.0) (subst (λ w. asks before w) (ap (λ (s : CertRecord). words-of s) this.1) may)

abbrev pub is_question : CertRecord → Bool
is_question (Question words) = true
is_question step = false

-- a line that is no question asks nothing
pub no-question : (before : List CertRecord) (step : CertRecord) → is_question step ≡ false
    → AllowsMore (OnlyThis before step) NoQuestion
no-question before step none b q this = false≢true (sym none ∙ ap (λ (s : CertRecord). is_question s) this.1)

-- a line asks itself at most
pub asks-itself : (before : List CertRecord) (step : CertRecord) → MayAsk (OnlyThis before step) before step
asks-itself before (Question question) = (refl, refl)
asks-itself before step = tt

-- the writing of one question's lines stopped
pub stops-asking : (g : Script) (asks : Asks) (before : List CertRecord) (question : List Word) (old new : DeskView)
    (error : WorkError) → asks before question → Stops g (OnlyThis before (Question question)) before old new error
    → Stops g asks before old new error
stops-asking g asks before question old new error may =
    stops-wider g (OnlyThis before (Question question)) asks (only-this asks before question may) before old new error

-- the writing of lines that ask nothing stopped
pub stops-silent : (g : Script) (asks : Asks) (before : List CertRecord) (old new : DeskView) (error : WorkError)
    → Stops g NoQuestion before old new error → Stops g asks before old new error
stops-silent g asks = stops-wider g NoQuestion asks (λ before question none. absurd none)

-- ---- where the writing stops

-- nothing more was written than some bytes behind the lines
pub stopped-here : (g : Script) (asks : Asks) (before : List CertRecord) (w : WriterView) (old new : DeskView)
    (error : WorkError) (cut : List ℕ) → IsWriter g before w → FileGrew cut old new
    → (cut ≡ []) ⊎ IsCutOff g asks before cut → StopsBy g asks before cut old new error
    → Stops g asks before old new error
stopped-here g asks before w old new error cut writer grew cut_off by = record {
  added = [];
  cut = cut;
  written = subst (λ ls. KeepsNumbers g ls) (sym (append-nil before)) writer.written;
  next = tt;
  asked = tt;
  grew = grew;
  cut_off = subst (λ ls. (cut ≡ []) ⊎ IsCutOff g asks ls cut) (sym (append-nil before)) cut_off;
  by = subst (λ ls. StopsBy g asks ls cut old new error) (sym (append-nil before)) by;
}

pub stops-for-memory : (g : Script) (asks : Asks) (before : List CertRecord) (w : WriterView) (old new : DeskView)
    → IsWriter g before w → FileGrew [] old new → Stops g asks before old new NoMemory
stops-for-memory g asks before w old new writer grew =
    stopped-here g asks before w old new NoMemory [] writer grew (inl refl) tt

pub by-later : (g : Script) (asks : Asks) (lines : List CertRecord) (cut : List ℕ) (old mid new : DeskView)
    (error : WorkError) → WriteCounts old mid → WriteCounts mid new → StopsBy g asks lines cut mid new error
    → StopsBy g asks lines cut old new error
by-later g asks lines cut old mid new WriteFault first second by =
    rose-later old.write_faults mid.write_faults new.write_faults first.write_faults_stand second.write_faults_stand by
by-later g asks lines cut old mid new (TooLarge what) first second by = by
by-later g asks lines cut old mid new NoMemory first second by = tt
by-later g asks lines cut old mid new ReadFault first second by = by

pub stops-after : TwiceLaw → (g : Script) (asks : Asks) (before more : List CertRecord) (old mid new : DeskView)
    (error : WorkError) → FileGrew (lines_text more) old mid → AreAsked asks before more
    → AllNext g before more → Stops g asks (before ++ more) mid new error → Stops g asks before old new error
stops-after twice g asks before more old mid new error grew asked next stops =
    let place = append_assoc before more stops.added in
    record {
      added = more ++ stops.added;
      cut = stops.cut;
      written = subst (λ ls. KeepsNumbers g ls) place stops.written;
      next = next-join g before more stops.added next stops.next;
      asked = asked-join asks before more stops.added asked stops.asked;
      grew = subst (λ bytes. FileGrew bytes old new) (sym (append_assoc (lines_text more) (lines_text stops.added)
          stops.cut)
          ∙ ap (λ (text : List ℕ). text ++ stops.cut) (sym (lines-more more stops.added)))
          (twice (lines_text more) (lines_text stops.added ++ stops.cut) old mid new grew stops.grew);
      cut_off = subst (λ ls. (stops.cut ≡ []) ⊎ IsCutOff g asks ls stops.cut) place stops.cut_off;
      by = subst (λ ls. StopsBy g asks ls stops.cut old new error) place
          (by-later g asks ((before ++ more) ++ stops.added)
          stops.cut old mid new error grew.counts stops.grew.counts stops.by);
    }

-- the writing stopped in a line that may come next
pub line-stopped : (g : Script) (asks : Asks) (before : List CertRecord) (step : CertRecord) (w : WriterView)
    (old new : DeskView) (error : WorkError) → IsWriter g before w → MayCome g asks before step
    → StopsIn g (record_text step) (before ++ step ∷ []) old new error → Stops g asks before old new error
line-stopped g asks before step w old new error writer may stops =
    stopped-here g asks before w old new error stops.cut writer stops.grew (inr (step, may, stops.is_front))
    (by error stops.by)
  where
    by : (error : WorkError) → LineStopsBy g (before ++ step ∷ []) stops.cut old new error
        → StopsBy g asks before stops.cut old new error
    by WriteFault b = b
    by (TooLarge what) b = (b.0, (step, may, b.1))
    by NoMemory b = tt
    by ReadFault b = b
