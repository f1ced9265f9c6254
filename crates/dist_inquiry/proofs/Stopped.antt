-- A file from its first line to its end, and where it stops.
use Rattle.std.proofs.Common.{◌≡◌, ◌⊎◌, inl, inr, ℕ, Result, Ok, Err, OnOk, IfErr, List, [], ◌∷◌}
use Rattle.std.proofs.Common.{◌++◌, length, Some, None, refl, ap, sym, subst, ◌∙◌, append_assoc, append-nil, arith}
use Rattle.std.proofs.Common.{length-append}
use Rattle.std.proofs.lemmas.List.{get_or_at}
use Rattle.dist_base.specs.Ascii.{line_feed}
use Rattle.dist_outside.specs.DeskView.{DeskView, FileGrew}
use Rattle.dist_outside.specs.declared.limits.Limits.{Limits}
use Rattle.dist_outside.specs.declared.trouble.WorkError.{WorkError}
use Rattle.dist_outside.specs.declared.trouble.WorkError.TheVariants.{ReadFault, WriteFault, TooLarge, NoMemory}
use Rattle.dist_cert.specs.ClearFormsLaws.{FormsAreClear}
use Rattle.dist_cert.specs.declared.records.CertRecord.{CertRecord}
use Rattle.dist_cert.specs.declared.records.CertRecord.TheVariants.{End}
use Rattle.dist_cert.specs.FileLines.{IsOneLine, file_text, lines_text}
use Rattle.dist_cert.specs.FirstLines.{first_line}
use Rattle.dist_cert.specs.Form.{record_text}
use Rattle.dist_cert.specs.PartByRecordsLaws.{IsShortLine}
use Rattle.dist_cert.specs.Writing.{ended}
use Rattle.dist_findings.specs.AnswerFiles.{AnswerFile, Inputs}
use Rattle.dist_findings.specs.declared.finding.Finding.{Finding}
use Rattle.dist_inquiry.specs.Asking.{IsAt}
use Rattle.dist_line_write.specs.Asking.{AskerView}
use Rattle.dist_line_write.specs.Script.{FirstMore, FirstStops, LineStopsBy, StopsIn, Asks, IsCutOff, Script, Stops}
use Rattle.dist_line_write.specs.Script.{PutMore, PutStops, StopsBy}
use Rattle.dist_line_write.specs.LineLaws.{keeps-same}
use Rattle.dist_line_write.specs.ScriptLaws.{TwiceLaw, lines-more, one-line, rose-later}
use Rattle.dist_inquiry.specs.AnswerText.{setting_of, whole_text}
use Rattle.dist_inquiry.specs.Inquiring.{InquiryMore, InquiryStops, MayInquire, MaySettle, SettleMore, SettleStops, course_of}
use Rattle.dist_inquiry.specs.Written.{Course, IsCutLine, IsStopped, StoppedBy}
use Rattle.dist_inquiry.proofs.WholeFile.{IsEnded, ended-answered}

-- a first line with what stands behind it
joined : (first : List ℕ) (lines : List CertRecord) (more : List ℕ) → ended first ++ (lines_text lines ++ more) ≡ file_text first lines ++ more
joined first lines more = append_assoc first (line_feed ∷ []) (lines_text lines ++ more)
    ∙ sym (append_assoc first (line_feed ∷ lines_text lines) more)

-- ---- in the first line

by-first : (g : Script) (course : Course) (cut : List ℕ) (old new : DeskView) (error : WorkError)
    → LineStopsBy g [] cut old new error → StoppedBy g course None cut old new error
by-first g course cut old new WriteFault by = by
by-first g course cut old new (TooLarge what) by = (by.0, (g.first, [], (refl, refl), by.1))
by-first g course cut old new NoMemory by = tt
by-first g course cut old new ReadFault by = by

first-stopped : (g : Script) (course : Course) (line : List ℕ) (old new : DeskView) (error : WorkError) → line ≡ g.first
    → StopsIn g line [] old new error → IsStopped g course old new error
first-stopped g course line old new error is stops = record {
  before = None;
  cut = stops.cut;
  written = tt;
  grew = stops.grew;
  cut_line = inr (line, [], (is, refl), stops.is_front);
  by = by-first g course stops.cut old new error stops.by;
}

-- ---- behind it

cut-later : (g : Script) (course : Course) (lines : List CertRecord) (cut : List ℕ) → (cut ≡ []) ⊎ IsCutOff g course.asks lines cut
    → IsCutLine g course (Some lines) cut
cut-later g course lines cut (inl none) = inl none
cut-later g course lines cut (inr off) = inr (record_text off.0, lines ++ off.0 ∷ [], (off.0, inl off.1, refl, refl), off.2)

by-later : (g : Script) (course : Course) (lines : List CertRecord) (cut : List ℕ) (old mid new : DeskView) (error : WorkError)
    → FileGrew (ended g.first) old mid → (bytes : List ℕ) → FileGrew bytes mid new
    → StopsBy g course.asks lines cut mid new error → StoppedBy g course (Some lines) cut old new error
by-later g course lines cut old mid new WriteFault first bytes grew by =
    rose-later old.write_faults mid.write_faults new.write_faults first.counts.write_faults_stand grew.counts.write_faults_stand by
by-later g course lines cut old mid new (TooLarge what) first bytes grew by =
    (by.0, (record_text by.1.0, lines ++ by.1.0 ∷ [], (by.1.0, inl by.1.1, refl, refl), by.1.2))
by-later g course lines cut old mid new NoMemory first bytes grew by = tt
by-later g course lines cut old mid new ReadFault first bytes grew by = by

later-stopped : TwiceLaw → (g : Script) (course : Course) (old mid new : DeskView) (error : WorkError)
    → FileGrew (ended g.first) old mid → Stops g course.asks [] mid new error → IsStopped g course old new error
later-stopped twice g course old mid new error first stops = record {
  before = Some stops.added;
  cut = stops.cut;
  written = (record { next = stops.next; within = stops.written }, stops.asked);
  grew = subst (λ bytes. FileGrew bytes old new) (joined g.first stops.added stops.cut)
      (twice (ended g.first) (lines_text stops.added ++ stops.cut) old mid new first stops.grew);
  cut_line = cut-later g course stops.added stops.cut stops.cut_off;
  by = by-later g course stops.added stops.cut old mid new error first (lines_text stops.added ++ stops.cut) stops.grew stops.by;
}

-- ---- in the end

by-end : (g : Script) (course : Course) (lines : List CertRecord) (cut : List ℕ) (old mid new : DeskView) (error : WorkError)
    → course.Decided lines → (bytes : List ℕ) → FileGrew bytes old mid → FileGrew cut mid new
    → LineStopsBy g (lines ++ End ∷ []) cut mid new error → StoppedBy g course (Some lines) cut old new error
by-end g course lines cut old mid new WriteFault decided bytes first grew by =
    rose-later old.write_faults mid.write_faults new.write_faults first.counts.write_faults_stand grew.counts.write_faults_stand by
by-end g course lines cut old mid new (TooLarge what) decided bytes first grew by =
    (by.0, (record_text End, lines ++ End ∷ [], (End, inr (refl, decided), refl, refl), by.1))
by-end g course lines cut old mid new NoMemory decided bytes first grew by = tt
by-end g course lines cut old mid new ReadFault decided bytes first grew by = by

-- the end was put behind lines
ended-by : (g : Script) (lines : List CertRecord) (d e : AskerView) → IsAt g lines d → PutMore d.writer e.writer End → IsEnded g lines
ended-by g lines d e at more =
    let behind = more g lines at.writer (keeps-same g.limits lines End refl at.writer.written.kept) in
    record {
      written = record { next = at.next; within = at.writer.written };
      short = subst (IsShortLine g.limits) (get_or_at lines End [] End (length lines) refl)
          (behind.written.short (length lines) End (omega (arith, length-append lines (End ∷ []))));
      bytes = behind.written.bytes;
    }

-- ---- the whole

-- what the first line makes of what may begin
settles : (file : AnswerFile) (Keeps : List ℕ → Type 0) (limits : Limits) (numbers : List ℕ) (basis : Inputs) (a b : AskerView) (line : List ℕ)
    → line ≡ first_line file.front numbers → b ≡ record a { writer = b.writer } → FirstMore a.writer b.writer line
    → MayInquire file Keeps limits numbers basis a → MaySettle file Keeps limits numbers basis b
settles file Keeps limits numbers basis a b line is rest more may =
    let g : Script = setting_of file limits basis numbers in
    record {
      right = may.right;
      at = subst (λ (v : AskerView). IsAt g [] v) (sym rest) (record {
        log = may.log;
        writer = more g is may.writer;
        next = tt;
        stand = may.stand;
      });
      keeps = may.keeps;
    }

pub all-first-stops : (file : AnswerFile) (Keeps : List ℕ → Type 0) (asks : List ℕ → Asks)
    (a : AskerView) (line : List ℕ) (old new : DeskView) (error : WorkError)
    → FirstStops a.writer line old new error
    → (numbers : List ℕ) → line ≡ first_line file.front numbers → InquiryStops file Keeps asks numbers old new a error
all-first-stops file Keeps asks a line old new error stops numbers is limits basis may =
    let g : Script = setting_of file limits basis numbers in
    first-stopped g (course_of file asks numbers) line old new error is (stops g is may.writer)

pub all-settle-stops : TwiceLaw → (file : AnswerFile) (Keeps : List ℕ → Type 0) (asks : List ℕ → Asks)
    (a b : AskerView) (line : List ℕ) (old mid new : DeskView)
    (error : WorkError) → FileGrew (ended line) old mid → b ≡ record a { writer = b.writer } → FirstMore a.writer b.writer line
    → SettleStops file Keeps asks mid new b error
    → (numbers : List ℕ) → line ≡ first_line file.front numbers → InquiryStops file Keeps asks numbers old new a error
all-settle-stops twice file Keeps asks a b line old mid new error grew rest more stops numbers is limits basis may =
    let g : Script = setting_of file limits basis numbers in
    later-stopped twice g (course_of file asks numbers) old mid new error (subst (λ l. FileGrew (ended l) old mid) is grew)
    (stops limits numbers basis (settles file Keeps limits numbers basis a b line is rest more may))

pub all-end-stops : TwiceLaw → (file : AnswerFile) (Keeps : List ℕ → Type 0) (asks : List ℕ → Asks)
    (Told : List ℕ → List Finding → Type 0) (a b d : AskerView) (line : List ℕ)
    (old mid late new : DeskView) (error : WorkError) → FileGrew (ended line) old mid → b ≡ record a { writer = b.writer }
    → FirstMore a.writer b.writer line → SettleMore file Keeps asks Told mid late b d → PutStops d.writer End late new error
    → (numbers : List ℕ) → line ≡ first_line file.front numbers → InquiryStops file Keeps asks numbers old new a error
all-end-stops twice file Keeps asks Told a b d line old mid late new error grew rest more settle stops numbers is limits basis may =
    let g : Script = setting_of file limits basis numbers in
    let first = subst (λ l. FileGrew (ended l) old mid) is grew in
    let x = settle limits numbers basis (settles file Keeps limits numbers basis a b line is rest more may) in
    let s = stops g x.lines x.at.writer in
    let text = subst (λ bytes. FileGrew bytes old late)
    (joined g.first x.lines [] ∙ append-nil (file_text g.first x.lines))
    (twice (ended g.first) (lines_text x.lines ++ []) old mid late first
    (subst (λ bytes. FileGrew bytes mid late) (sym (append-nil (lines_text x.lines))) x.grew)) in
    record {
      before = Some x.lines;
      cut = s.cut;
      written = (record { next = x.at.next; within = x.at.writer.written }, x.asked);
      grew = twice (file_text g.first x.lines) s.cut old late new text s.grew;
      cut_line = inr (record_text End, x.lines ++ End ∷ [], (End, inr (refl, x.decided), refl, refl), s.is_front);
      by = by-end g (course_of file asks numbers) x.lines s.cut old late new error x.decided (file_text g.first x.lines) text s.grew s.by;
    }

pub all-whole : FormsAreClear → TwiceLaw → (file : AnswerFile) → IsOneLine file.front → (Keeps : List ℕ → Type 0)
    (asks : List ℕ → Asks) (Told : List ℕ → List Finding → Type 0) (a b d e : AskerView) (line : List ℕ) (old mid late new : DeskView)
    → FileGrew (ended line) old mid
    → b ≡ record a { writer = b.writer } → FirstMore a.writer b.writer line → SettleMore file Keeps asks Told mid late b d
    → FileGrew (ended (record_text End)) late new → PutMore d.writer e.writer End
    → (numbers : List ℕ) → line ≡ first_line file.front numbers → InquiryMore file Keeps asks Told numbers old new a
all-whole clear twice file one Keeps asks Told a b d e line old mid late new grew rest more settle last done numbers is limits basis may =
    let g : Script = setting_of file limits basis numbers in
    let first = subst (λ l. FileGrew (ended l) old mid) is grew in
    let x = settle limits numbers basis (settles file Keeps limits numbers basis a b line is rest more may) in
    record {
      text = whole_text g x.lines;
      grew = subst (λ bytes. FileGrew bytes old new)
          (joined g.first x.lines (ended (record_text End)) ∙ append_assoc g.first (line_feed ∷ lines_text x.lines) (ended (record_text End))
          ∙ ap (λ (bytes : List ℕ). g.first ++ line_feed ∷ bytes)
          (ap (λ (bytes : List ℕ). lines_text x.lines ++ bytes) (sym (one-line End)) ∙ sym (lines-more x.lines (End ∷ []))))
          (twice (ended g.first) (lines_text x.lines ++ ended (record_text End)) old mid new first
          (twice (lines_text x.lines) (ended (record_text End)) mid late new x.grew last));
      answered = ended-answered clear file one limits numbers basis may.right may.stand x.lines (ended-by g x.lines d e x.at done) x.decided (Told numbers)
          x.told;
      whole = record { lines = x.lines; is = refl; written = record { next = x.at.next; within = x.at.writer.written }; asked = x.asked; decided = x.decided };
    }

-- ---- answers

pub on-both : {X E A B C : Type 0} (result : Result X E) → (A → B → C) → OnOk result A → OnOk result B → OnOk result C
on-both (Ok x) f a b = f a b
on-both (Err e) f a b = tt

pub if-err : {X E : Type 0} (P Q : E → Type 0) (result : Result X E) → ((e : E) → P e → Q e) → IfErr result P → IfErr result Q
if-err P Q (Ok x) f p = tt
if-err P Q (Err e) f p = f e p
