-- How a text that is judged line by line goes on, and where it stops.
use Rattle.std.proofs.Common.{◌≡◌, inl, inr, ℕ, ◌+◌, ◌≤◌, false, List, [], ◌∷◌, ◌++◌, Option, Some, None, Result}
use Rattle.std.proofs.Common.{Ok, Err, length, refl, sym, ap, subst, ◌∙◌, arith, length-append}
use Rattle.std.specs.List.{list_any}
use Rattle.std.specs.Result.{IsErrAnd}
use Rattle.std.proofs.lemmas.Bool.{true≢false, cases_lt}
use Rattle.std.proofs.lemmas.List.Elements.{All-nil}
use Rattle.dist_base.specs.Ascii.{line_feed}
use Rattle.dist_outside.specs.Counts.{Rose}
use Rattle.dist_outside.specs.DeskView.{DeskView, OnlyReads}
use Rattle.dist_outside.specs.Reading.{bytes_left}
use Rattle.dist_outside.specs.declared.limits.Limits.{Limits}
use Rattle.dist_outside.specs.declared.trouble.What.TheVariants.{Lines}
use Rattle.dist_outside.specs.declared.trouble.What.TheVariants.{LineLiterals, Certificate}
use Rattle.dist_outside.specs.declared.trouble.WorkError.TheVariants.{ReadFault, WriteFault, TooLarge, NoMemory}
use Rattle.dist_clause.specs.ClauseList.{literal_count}
use Rattle.dist_clause.specs.Formula.{Literal}
use Rattle.dist_cert.specs.declared.faults.ReadCertError.{ReadCertError}
use Rattle.dist_cert.specs.declared.faults.ReadCertError.TheVariants.{Bad, Work}
use Rattle.dist_cert.specs.declared.records.CertRecord.{CertRecord}
use Rattle.dist_cert.specs.declared.records.CertRecord.TheVariants as lines
use Rattle.dist_cert.specs.FileLines.{IsTooLong, file_text, AreRight}
use Rattle.dist_cert.specs.Form.{record_text, HasForm, is_end}
use Rattle.dist_cert.specs.Groups.{clause_of, derived}
use Rattle.dist_cert.specs.Reading.{ReaderView, WhereTold, PassesWhole, KeepsLimits, IsRecordNext, RecordAnswers}
use Rattle.dist_cert.specs.Reading.{RecordCause, RecordOfSome, GivesRecord, in_front, text_left}
use Rattle.dist_judge.specs.Causes.{TextCause}
use Rattle.dist_judge.specs.ClearKindLaws.{IsClear}
use Rattle.dist_judge.specs.FileKind.{FileKind, rules_of}
use Rattle.dist_judge.specs.Judging.{KeepsNumbers, IsReached, IsCompleted, FillsLines, FillsLiterals, StopsAtDerived}
use Rattle.dist_judge.specs.Judging.{StopsWith, OfText}
use Rattle.dist_judge.specs.LineLaws.{AreFaultless, HasFirst, HaveForms, IsFaultless, IsLineNext, ended_from}
use Rattle.dist_judge.specs.LineLaws.{ended_push}
use Rattle.dist_judge.specs.LineLaws.{end_none, faultless_none, faultless_push, forms_push, from_ended, record_refused}
use Rattle.dist_judge.specs.LineLaws.{step_reached, step_refused, stops_derived, text_push}

-- ---- what was read

-- The lines that were read are those of the text, where it is told, and have no fault. Where it is not told, they have
-- none whatever is behind them.
abbrev pub TextAt : (kind : FileKind) → Limits → kind.Basis → kind.Heading → List CertRecord → Option (List ℕ)
    → Option (List ℕ) → Type 0
TextAt kind limits basis h before None left = (rest : List ℕ)
    → AreRight (rules_of kind basis) limits (file_text (kind.heading_text h) before ++ rest) h before rest
TextAt kind limits basis h before (Some text) left = (rest : List ℕ) × (left ≡ Some rest)
    × AreRight (rules_of kind basis) limits text h before rest

-- The records behind a heading were read: they have no fault and keep the numbers, the reader stands behind them, and
-- they are those of the text.
pub record IsRead (kind : FileKind) (limits : Limits) (told : Option (List ℕ)) (basis : kind.Basis) (h : kind.Heading)
    (before : List CertRecord) (reader : ReaderView) (left : Option (List ℕ)) : Type 0 where
  pub is_basis : kind.IsBasisOf h basis
  pub within : kind.IsWithin limits basis
  pub faultless : AreFaultless kind basis h before
  pub forms : HaveForms before
  pub derived_lines : length (derived before) ≤ limits.lines
  pub line_literals : literal_count (derived before) ≤ limits.line_literals
  pub limits_are : reader.limits ≡ limits
  pub line_count : reader.lines ≡ length before + 1
  pub given : reader.given ≡ length (file_text (kind.heading_text h) before)
  pub ended : reader.ended ≡ list_any is_end before
  pub text : TextAt kind limits basis h before told left

-- the text of the lines that were read, with any bytes behind them
pub at_bytes : (kind : FileKind) (limits : Limits) (basis : kind.Basis) (h : kind.Heading) (before : List CertRecord)
    (reader : ReaderView) (rest : List ℕ) → IsRead kind limits None basis h before reader None
    → IsRead kind limits (Some (file_text (kind.heading_text h) before ++ rest)) basis h before reader (Some rest)
at_bytes kind limits basis h before reader rest x = record {
  is_basis = x.is_basis;
  within = x.within;
  faultless = x.faultless;
  forms = x.forms;
  derived_lines = x.derived_lines;
  line_literals = x.line_literals;
  limits_are = x.limits_are;
  line_count = x.line_count;
  given = x.given;
  ended = x.ended;
  text = (rest, refl, x.text rest);
}

-- a text without a fault is that of its lines, with the rest behind them
pub from_text : (kind : FileKind) (limits : Limits) (basis : kind.Basis) (text : List ℕ) (h : kind.Heading)
    (before : List CertRecord) (rest : List ℕ) → AreRight (rules_of kind basis) limits text h before rest
    → AreRight (rules_of kind basis) limits (file_text (kind.heading_text h) before ++ rest) h before rest
from_text kind limits basis text h before rest faultless =
    subst (λ bytes. AreRight (rules_of kind basis) limits bytes h before rest) faultless.reads.text_is faultless

-- a derived line, with which this is passed
abbrev pub DerivesPassing : List CertRecord → (List (List Literal) → List Literal → Type 0) → CertRecord → Type 0
DerivesPassing before Passes (lines.Derived literals hints) = Passes (derived before) (clause_of literals)
DerivesPassing before Passes step = ⊥

-- why a line that is read stops the work with an error
abbrev pub LineStops : (kind : FileKind) → Limits → kind.Basis → kind.Heading → List CertRecord → CertRecord → ℕ
    → ReadCertError → Type 0
LineStops kind limits basis h before step line (Bad fault) = (fault.line ≡ line)
    × HasFirst kind basis h before step fault.cause
LineStops kind limits basis h before step line (Work (TooLarge Lines)) = IsFaultless kind basis h before step
    × DerivesPassing before (FillsLines limits) step
LineStops kind limits basis h before step line (Work (TooLarge LineLiterals)) = IsFaultless kind basis h before step
    × DerivesPassing before (FillsLiterals limits) step
LineStops kind limits basis h before step line (Work NoMemory) = Unit {0}
LineStops kind limits basis h before step line (Work error) = ⊥

module _ (kind : FileKind) (clear : IsClear kind) (limits : Limits) (told : Option (List ℕ)) (basis : kind.Basis)
    (h : kind.Heading) (before : List CertRecord) (reader : ReaderView) (left : Option (List ℕ))
    (x : IsRead kind limits told basis h before reader left) (bytes : reader.given ≤ reader.limits.certificate) where
  pub numbers_of : KeepsNumbers kind limits basis h before
  numbers_of = record {
    inputs = x.within;
    derived_lines = x.derived_lines;
    line_literals = x.line_literals;
    bytes = omega (arith, bytes, x.given, ap (λ (l : Limits). l.certificate) x.limits_are);
  }

  reached : (text rest : List ℕ) → AreRight (rules_of kind basis) limits text h before rest
      → IsReached kind basis limits text h before rest
  reached text rest faultless = record { is_basis = x.is_basis; faultless = faultless; numbers = numbers_of }

  -- the line that is next, where the text is told
  line_next : (text rest more : List ℕ) → AreRight (rules_of kind basis) limits text h before rest
      → (step : CertRecord) (next : IsRecordNext reader rest more step)
      → IsLineNext kind basis limits text h before rest next.line more step
  line_next text rest more faultless step next = record {
    reached = reached text rest faultless;
    keeps = subst (λ n. KeepsLimits limits n rest) x.given
        (subst (λ l. KeepsLimits l reader.given rest) x.limits_are next.limits);
    begins = next.begins;
    form = next.form;
    open_still = λ there. true≢false (sym (from_ended before there) ∙ sym x.ended ∙ next.not_ended);
  }

  whole : (rest : List ℕ) → PassesWhole reader.limits reader.given rest
      → PassesWhole limits (length (file_text (kind.heading_text h) before)) rest
  whole rest passes = subst (λ n. PassesWhole limits n rest) x.given
      (subst (λ l. PassesWhole l reader.given rest) x.limits_are passes)

  -- ---- a line that is not read

  pub next_stops : (next : ReaderView) (after : Option (List ℕ)) (old new : DeskView) (error : ReadCertError)
      → WhereTold left after (λ rest more. RecordAnswers reader rest more (Err error))
      → RecordCause reader next old new (Err error) → OfText told (λ text. StopsWith kind limits text error)
  next_stops next after old new error answers cause = by told x.text
    where
      at : (text rest more : List ℕ) → AreRight (rules_of kind basis) limits text h before rest → (e : ReadCertError)
          → RecordAnswers reader rest more (Err e) → RecordCause reader next old new (Err e)
          → StopsWith kind limits text e
      at text rest more faultless (Bad fault) answer because =
          inr (record_refused kind clear basis limits text h before rest reader
          (reached text rest faultless) x.limits_are
          x.given x.ended fault (omega (arith, because.0, x.line_count)) answer.0)
      at text rest more faultless (Work ReadFault) answer because = tt
      at text rest more faultless (Work NoMemory) answer because = tt
      at text rest more faultless (Work WriteFault) answer because = because
      at text rest more faultless (Work (TooLarge Certificate)) answer because = inr (record {
        basis = basis;
        h = h;
        before = before;
        rest = rest;
        reached = reached text rest faultless;
        passes = whole rest answer.0;
      })
      at text rest more faultless (Work (TooLarge what)) answer because = absurd because

      by : (t : Option (List ℕ)) → TextAt kind limits basis h before t left
          → OfText t (λ text. StopsWith kind limits text error)
      by None here = tt
      by (Some text) here =
          let answer = subst (λ l. WhereTold l after (λ rest more. RecordAnswers reader rest more (Err error))) here.1
          answers in at text here.0 answer.0 here.2 error answer.2 cause

  -- ---- a line that is read, and stops the work

  derived_stops : (text rest more line : List ℕ) (step : CertRecord)
      → IsLineNext kind basis limits text h before rest line more step → IsFaultless kind basis h before step
      → (Passes : List (List Literal) → List Literal → Type 0) → DerivesPassing before Passes step
      → StopsAtDerived kind limits text Passes
  derived_stops text rest more line (lines.Derived literals hints) next faultless Passes passes =
      stops_derived kind clear basis limits text h before rest line more literals hints next faultless Passes passes
  derived_stops text rest more line step next faultless Passes passes = absurd passes

  pub line_stops : (after : Option (List ℕ)) (step : CertRecord) (line : ℕ) (error : ReadCertError)
      → WhereTold left after (λ rest more. RecordAnswers reader rest more (Ok (Some step)))
      → line ≡ reader.lines + 1 → LineStops kind limits basis h before step line error
      → OfText told (λ text. StopsWith kind limits text error)
  line_stops after step line error answers number stops = by told x.text
    where
      at : (text rest more : List ℕ) → AreRight (rules_of kind basis) limits text h before rest
          → IsRecordNext reader rest more step → (e : ReadCertError)
          → LineStops kind limits basis h before step line e
          → StopsWith kind limits text e
      at text rest more faultless next (Bad fault) stop =
          inr (step_refused kind clear basis limits text h before rest next.line more step
          (line_next text rest more faultless step next) fault (omega (arith, stop.0, number, x.line_count)) stop.1)
      at text rest more faultless next (Work (TooLarge Lines)) stop =
          derived_stops text rest more next.line step (line_next text rest more faultless step next) stop.0
          (FillsLines limits) stop.1
      at text rest more faultless next (Work (TooLarge LineLiterals)) stop =
          derived_stops text rest more next.line step (line_next text rest more faultless step next) stop.0
          (FillsLiterals limits) stop.1
      at text rest more faultless next (Work NoMemory) stop = tt
      at text rest more faultless next (Work error) stop = absurd stop

      by : (t : Option (List ℕ)) → TextAt kind limits basis h before t left
          → OfText t (λ text. StopsWith kind limits text error)
      by None here = tt
      by (Some text) here =
          let answer = subst (λ l. WhereTold l after (λ rest more. RecordAnswers reader rest more (Ok (Some step))))
          here.1 answers in at text here.0 answer.0 here.2 answer.2 error stops

  -- ---- a line that is taken

  pub next_read : (next : ReaderView) (after : Option (List ℕ)) (old new : DeskView) (step : CertRecord)
      → WhereTold left after (λ rest more. RecordAnswers reader rest more (Ok (Some step)))
      → RecordCause reader next old new (Ok (Some step)) → RecordOfSome reader (Ok (Some step))
      → GivesRecord reader next (Ok (Some step)) → IsFaultless kind basis h before step
      → length (derived (before ++ step ∷ [])) ≤ limits.lines
      → literal_count (derived (before ++ step ∷ [])) ≤ limits.line_literals
      → IsRead kind limits told basis h (before ++ step ∷ []) next after
  next_read next after old new step answers because some gives faultless lines_kept literals_kept = record {
    is_basis = x.is_basis;
    within = x.within;
    faultless = faultless_push kind basis h before step x.faultless faultless;
    forms = forms_push before step x.forms because.0;
    derived_lines = lines_kept;
    line_literals = literals_kept;
    limits_are = ap (λ (v : ReaderView). v.limits) gives ∙ x.limits_are;
    line_count = omega (
      arith,
      ap (λ (v : ReaderView). v.lines) gives,
      x.line_count,
      length-append before (step ∷ []),
    );
    given = ap (λ (v : ReaderView). v.given) gives ∙ ap (λ (n : ℕ). n + (length (record_text step) + 1)) x.given
        ∙ sym (text_push (kind.heading_text h) before step);
    ended = ap (λ (v : ReaderView). v.ended) gives ∙ sym (ended_push before step (sym x.ended ∙ because.1));
    text = by told x.text;
  }
    where
      by : (o : Option (List ℕ)) → TextAt kind limits basis h before o left
          → TextAt kind limits basis h (before ++ step ∷ []) o after
      by None here = λ more.
          let rest : List ℕ = record_text step ++ line_feed ∷ more in
          let text : List ℕ = file_text (kind.heading_text h) before ++ rest in
          let next_is = some more in
          from_text kind limits basis text h (before ++ step ∷ []) more
          (step_reached kind clear basis limits text h before rest next_is.line more step
          (line_next text rest more (here rest) step next_is) faultless)
      by (Some text) here =
          let answer = subst (λ l. WhereTold l after (λ rest more. RecordAnswers reader rest more (Ok (Some step))))
          here.1 answers in (
            answer.0,
            answer.1,
            step_reached kind clear basis limits text h before here.0 answer.2.line answer.0 step
                (line_next text here.0 answer.0 here.2 step answer.2) faultless,
          )

  -- ---- the end

  pub completes : (after : Option (List ℕ))
      → WhereTold left after (λ rest more. RecordAnswers reader rest more (Ok None))
      → (Tells : kind.Basis → List CertRecord → Type 0) → Tells basis before
      → OfText told (λ text. IsCompleted kind limits text h Tells)
  completes after answers Tells tells = by told x.text
    where
      by : (t : Option (List ℕ)) → TextAt kind limits basis h before t left
          → OfText t (λ text. IsCompleted kind limits text h Tells)
      by None here = tt
      by (Some text) here =
          let answer = subst (λ l. WhereTold l after (λ rest more. RecordAnswers reader rest more (Ok None))) here.1
          answers in
          let end = answer.2.0 in
          let ended = ended_from before (sym x.ended ∙ end.ended) in
          let faultless = subst (AreRight (rules_of kind basis) limits text h before) end.nothing here.2 in record {
            basis = basis;
            is_basis = x.is_basis;
            steps = before;
            accepted = record {
              faultless = faultless;
              ends = end_none (kind.HasFault basis h) limits before (λ long. end.limits.line
                  (subst (λ bs. IsTooLong reader.limits bs) (sym end.nothing)
                  (subst (λ l. IsTooLong l []) (sym x.limits_are) long))) ended;
            };
            claims = tells;
            numbers = numbers_of;
          }

-- ---- the first line

-- a reader before any line
abbrev pub new_reader : Limits → ReaderView
new_reader limits = record { limits = limits; held = []; given = 0; lines = 0; ended = false }

-- nothing is held before the first line
pub nothing_read : (limits : Limits) (reader : ReaderView) (v : DeskView) → reader ≡ new_reader limits
    → text_left reader v ≡ bytes_left v.files v.mode
nothing_read limits reader v is =
    ap (λ (r : ReaderView). text_left r v) is ∙ by (bytes_left v.files v.mode)
  where
    by : (o : Option (List ℕ)) → in_front [] o ≡ o
    by None = refl
    by (Some bytes) = refl

-- what is read behind a first line without a fault
pub starts_read : (kind : FileKind) (limits : Limits) (told : Option (List ℕ)) (basis : kind.Basis) (h : kind.Heading)
    (reader : ReaderView) (left : Option (List ℕ)) → kind.IsBasisOf h basis → kind.IsWithin limits basis
    → reader.limits ≡ limits → reader.lines ≡ 1 → reader.given ≡ length (kind.heading_text h) + 1
    → reader.ended ≡ false → TextAt kind limits basis h [] told left
    → IsRead kind limits told basis h [] reader left
starts_read kind limits told basis h reader left is within limits_are line_count given ended text = record {
  is_basis = is;
  within = within;
  faultless = faultless_none kind basis h;
  forms = All-nil (λ step. HasForm (record_text step) step);
  derived_lines = omega arith;
  line_literals = omega arith;
  limits_are = limits_are;
  line_count = line_count;
  given = omega (arith, given, length-append (kind.heading_text h) (line_feed ∷ []));
  ended = ended;
  text = text;
}

-- ---- whatever is told

pub rose_from : (a b c : ℕ) → a ≤ b → b ≤ c → Rose b c → Rose a c
rose_from a b c first second rose = elim rose [
  | inl less ↦ inl (omega arith)
  | inr full ↦ elim (cases_lt a c) [
    | inl less ↦ inl less
    | inr most ↦ inr (omega arith)
  ]
]

pub reads_on : (a b c : DeskView) → OnlyReads a b → OnlyReads b c → OnlyReads a c
reads_on a b c first second = record {
  files_stay = second.files_stay ∙ first.files_stay;
  not_writing = second.not_writing;
  read_faults_stand = omega (arith, first.read_faults_stand, second.read_faults_stand);
  write_faults_stay = second.write_faults_stay ∙ first.write_faults_stay;
}

-- a cause behind what was read before
pub later_cause : (entry old new : DeskView) (error : ReadCertError) → OnlyReads entry old → OnlyReads old new
    → TextCause old new error → TextCause entry new error
later_cause entry old new (Bad fault) first second cause = tt
later_cause entry old new (Work ReadFault) first second cause =
    rose_from entry.read_faults old.read_faults new.read_faults first.read_faults_stand second.read_faults_stand cause
later_cause entry old new (Work WriteFault) first second cause = cause
later_cause entry old new (Work NoMemory) first second cause = tt
later_cause entry old new (Work (TooLarge what)) first second cause = cause

-- what the exit of a `?` returns
pub by_exit : {X : Type 0} (P : Result X ReadCertError → Type 0) (r : Result X ReadCertError) (error : ReadCertError)
    → IsErrAnd r (λ e. e ≡ error) → P (Err error) → P r
by_exit P (Ok x) error is holds = absurd is
by_exit P (Err e) error is holds = subst (λ y. P (Err y)) (sym is) holds
