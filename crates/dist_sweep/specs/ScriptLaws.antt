-- Laws of what was written so far, and of where the writing stops behind more lines. Proofs cite them, those of the
-- crates above too.
use Rattle.std.proofs.Common.{◌≡◌, ◌⊎◌, inl, inr, ℕ, List, [], ◌∷◌, ◌++◌, ap, sym, subst, ◌∙◌, append_assoc}
use Rattle.std.proofs.Common.{append-nil, refl}
use Rattle.dist_outside.specs.DeskView.{DeskView, FileGrew, WriteCounts}
use Rattle.dist_outside.specs.declared.trouble.What.{What}
use Rattle.dist_outside.specs.declared.trouble.What.TheVariants.{Lines, LineLiterals, RecordLine, Certificate}
use Rattle.dist_outside.specs.declared.trouble.WorkError.{WorkError}
use Rattle.dist_outside.specs.declared.trouble.WorkError.TheVariants.{ReadFault, WriteFault, TooLarge, NoMemory}
use Rattle.dist_cert.specs.declared.records.CertRecord.{CertRecord}
use Rattle.dist_cert.specs.FileLines.{lines_text}
use Rattle.dist_cert.specs.Part.{Passes}
use Rattle.dist_cert.specs.PartByRecordsLaws.{IsLine}
use Rattle.dist_cert.specs.Writing.{WriterView}
use Rattle.dist_line_write.specs.Script.{KeepsLines, LineStopsBy, PutMore, PutStops}
use Rattle.dist_line_write.specs.Script.{IsWriter as StandsBehind, Passes as PassesNumbers}
use Rattle.dist_line_write.specs.ScriptLaws.{TwiceLaw, lines-more, rose-later}
use Rattle.dist_sweep.specs.Script.{Setting, AllNext, AreWritten, IsCutOff, IsWriter, Stops, StopsBy, matter_in}
use Rattle.dist_sweep.specs.Script.{script_of}

-- ---- lines that may come next

pub next-join : (g : Setting) (before steps more : List CertRecord) → AllNext g before steps
    → AllNext g (before ++ steps) more → AllNext g before (steps ++ more)
next-join g before [] more all rest = subst (λ b. AllNext g b more) (append-nil before) rest
next-join g before (x ∷ steps) more all rest = (
  all.0,
  next-join g (before ++ x ∷ []) steps more all.1
      (subst (λ b. AllNext g b more) (sym (append_assoc before (x ∷ []) steps)) rest),
)

-- ---- one line more

-- the writer, apart from which lines may come
pub stands-behind : (g : Setting) (before : List CertRecord) (w : WriterView) → IsWriter g before w
    → StandsBehind (script_of g) before w
stands-behind g before w writer = record { written = writer.written.within; stands = writer.stands }

pub put-behind : (g : Setting) (before : List CertRecord) (step : CertRecord) (w after : WriterView)
    → PutMore w after step → IsWriter g before w → IsLine (matter_in g) g.header before step
    → KeepsLines g.limits (before ++ step ∷ []) → IsWriter g (before ++ step ∷ []) after
put-behind g before step w after more writer line kept =
    let behind = more (script_of g) before (stands-behind g before w writer) kept in
    record {
      written = record {
        next = next-join g [] before (step ∷ []) writer.written.next (line, tt);
        within = behind.written;
      };
      stands = behind.stands;
    }

-- ---- where the writing stops

pub passes-in : (g : Setting) (steps : List CertRecord) (what : What) → PassesNumbers (script_of g) steps what
    → Passes g.limits g.header steps what
passes-in g steps Lines passes = passes
passes-in g steps LineLiterals passes = passes
passes-in g steps RecordLine passes = passes
passes-in g steps Certificate passes = passes
passes-in g steps what passes = passes

-- nothing more was written than some bytes behind the lines
pub stopped-here : (g : Setting) (before : List CertRecord) (w : WriterView) (old new : DeskView) (error : WorkError)
    (cut : List ℕ) → IsWriter g before w
    → FileGrew cut old new
    → (cut ≡ []) ⊎ IsCutOff g before cut → StopsBy g before cut old new error → Stops g before old new error
stopped-here g before w old new error cut writer grew cut_off by = record {
  added = [];
  cut = cut;
  written = subst (λ ls. AreWritten g ls) (sym (append-nil before)) writer.written;
  grew = grew;
  cut_off = subst (λ ls. (cut ≡ []) ⊎ IsCutOff g ls cut) (sym (append-nil before)) cut_off;
  by = subst (λ ls. StopsBy g ls cut old new error) (sym (append-nil before)) by;
}

pub stops-for-memory : (g : Setting) (before : List CertRecord) (w : WriterView) (old new : DeskView)
    → IsWriter g before w → FileGrew [] old new
    → Stops g before old new NoMemory
stops-for-memory g before w old new writer grew = stopped-here g before w old new NoMemory [] writer grew (inl refl)
    tt

pub by-later : (g : Setting) (lines : List CertRecord) (cut : List ℕ) (old mid new : DeskView) (error : WorkError)
    → WriteCounts old mid → WriteCounts mid new
    → StopsBy g lines cut mid new error → StopsBy g lines cut old new error
by-later g lines cut old mid new WriteFault first second by =
    rose-later old.write_faults mid.write_faults new.write_faults first.write_faults_stand second.write_faults_stand by
by-later g lines cut old mid new (TooLarge what) first second by = by
by-later g lines cut old mid new NoMemory first second by = tt
by-later g lines cut old mid new ReadFault first second by = by

pub stops-after : TwiceLaw → (g : Setting) (before more : List CertRecord) (old mid new : DeskView)
    (error : WorkError) → FileGrew (lines_text more) old mid
    → Stops g (before ++ more) mid new error
    → Stops g before old new error
stops-after twice g before more old mid new error grew stops =
    let place = append_assoc before more stops.added in
    record {
      added = more ++ stops.added;
      cut = stops.cut;
      written = subst (λ ls. AreWritten g ls) place stops.written;
      grew = subst (λ bytes. FileGrew bytes old new) (sym (append_assoc (lines_text more) (lines_text stops.added)
          stops.cut)
          ∙ ap (λ (text : List ℕ). text ++ stops.cut) (sym (lines-more more stops.added)))
          (twice (lines_text more) (lines_text stops.added ++ stops.cut) old mid new grew stops.grew);
      cut_off = subst (λ ls. (stops.cut ≡ []) ⊎ IsCutOff g ls stops.cut) place stops.cut_off;
      by = subst (λ ls. StopsBy g ls stops.cut old new error) place
          (by-later g ((before ++ more) ++ stops.added)
          stops.cut old mid new error grew.counts stops.grew.counts stops.by);
    }

-- the writing stopped in a line that may come next
pub put-stopped : (g : Setting) (before : List CertRecord) (step : CertRecord) (w : WriterView) (old new : DeskView)
    (error : WorkError) → PutStops w step old new error → IsWriter g before w
    → IsLine (matter_in g) g.header before step → Stops g before old new error
put-stopped g before step w old new error stops writer line =
    let s = stops (script_of g) before (stands-behind g before w writer) in
    stopped-here g before w old new error s.cut writer s.grew (inr (step, line, s.is_front)) (by s.cut error s.by)
  where
    by : (cut : List ℕ) (error : WorkError) → LineStopsBy (script_of g) (before ++ step ∷ []) cut old new error
        → StopsBy g before cut old new error
    by cut WriteFault b = b
    by cut (TooLarge what) b = (b.0, (step, line, passes-in g (before ++ step ∷ []) what b.1))
    by cut NoMemory b = tt
    by cut ReadFault b = b
