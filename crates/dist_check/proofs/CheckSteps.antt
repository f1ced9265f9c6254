-- How the check of a text begins.
use Rattle.std.proofs.Common.{◌≡◌, ◌≢◌, inl, ℕ, Bool, false, List, [], ◌∷◌, ◌++◌, Option, Some, None, Ok, Err, refl, sym, ap}
use Rattle.std.proofs.Common.{subst, ◌∙◌, arith}
use Rattle.std.specs.List.{All}
use Rattle.dist_base.specs.Ascii.{line_feed}
use Rattle.dist_outside.specs.DeskView.{DeskView, OnlyReads}
use Rattle.dist_outside.specs.declared.limits.Limits.{Limits}
use Rattle.dist_outside.specs.declared.trouble.What.{What}
use Rattle.dist_outside.specs.declared.trouble.What.TheVariants.{Bytes, Stanzas, Variables, Clauses, Literals, Lines, LineLiterals, Certificate, RecordLine}
use Rattle.dist_outside.specs.declared.trouble.WorkError.TheVariants.{ReadFault, WriteFault, TooLarge, NoMemory}
use Rattle.dist_clause.specs.Formula.{IsClauseOver}
use Rattle.dist_repo.specs.Order.{IsInOrder}
use Rattle.dist_repo.specs.PackageList.{PackageList}
use Rattle.dist_cert.specs.declared.faults.CertCause.{CertCause}
use Rattle.dist_cert.specs.declared.faults.CertCause.TheVariants as faults
use Rattle.dist_cert.specs.declared.faults.ReadCertError.{ReadCertError}
use Rattle.dist_cert.specs.declared.faults.ReadCertError.TheVariants.{Bad, Work}
use Rattle.dist_cert.specs.declared.records.CertKind.{CertKind}
use Rattle.dist_cert.specs.declared.records.CertKind.TheVariants as kinds
use Rattle.dist_cert.specs.declared.records.Header.{Header}
use Rattle.dist_cert.specs.ClearFormsLaws.{FormsAreClear}
use Rattle.dist_cert.specs.Form.{header_text}
use Rattle.dist_cert.specs.Reading.{ReaderView, WhereTold, PassesWhole, KeepsLimits, IsHeaderNext, HeaderAnswers, HeaderCause, HeaderFault, GivesHeader}
use Rattle.dist_cert.specs.Reading.{HeaderOfSome, RecordCause}
use Rattle.dist_cert.specs.FileLines.{AreRight}
use Rattle.dist_judge.specs.Causes.{TextCause}
use Rattle.dist_judge.specs.FileKind.{rules_of}
use Rattle.dist_judge.specs.HeadingLaws.{IsHeadingFault, heading_refused, heading_unfit, starts_faultless}
use Rattle.dist_judge.specs.Judging.{HasLargeInputs, OfText, StopsFirst, StopsWith}
use Rattle.dist_judge.specs.ReadingLaws.{TextAt, from_text, new_reader, rose_from, starts_read}
use Rattle.dist_subject.specs.Basis.{Today, matter_of}
use Rattle.dist_subject.specs.Certificates.{certificates_of}
use Rattle.dist_subject.specs.Limited.{PassesFirst, PassesLater, PassesPresent}
use Rattle.dist_check.specs.Start.{IsStart, StartAnswers}
use Rattle.dist_check_state.specs.State.{StateView}
use Rattle.dist_line_check.specs.Checked.{IsChecked}
use Rattle.dist_line_check.specs.Checker.{CheckerView}
use Rattle.dist_check.specs.CertificateLines.{certificate_lines}
use Rattle.dist_check.proofs.ClearKind.{clear-kind}
use Rattle.dist_check.proofs.Next.{starts-at, starts-kept}
use Rattle.dist_check.proofs.Whole.{ModelsAreHealthy}

-- ---- the first line

-- a reader's fault of a first line is one that it has on its own
heading-fault : (r : PackageList) (limits : Limits) (reader : ReaderView) → reader ≡ new_reader limits → (text : List ℕ) (cause : CertCause)
    → HeaderFault reader text cause → IsHeadingFault (certificates_of r) limits text cause
heading-fault r limits reader is text cause fault = by cause (subst (λ v. HeaderFault v text cause) is fault)
  where
    by : (c : CertCause) → HeaderFault (new_reader limits) text c → IsHeadingFault (certificates_of r) limits text c
    by faults.LineTooLong f = f
    by faults.Truncated f = f
    by faults.BadHeader f = (f.0, f.1.0, f.1.1, f.1.2, f.1.3)
    by c f = absurd f

pub header-stops : (r : PackageList) (limits : Limits) (reader next : ReaderView) (told left after : Option (List ℕ)) (old new : DeskView)
    → reader ≡ new_reader limits → left ≡ told → (error : ReadCertError) → WhereTold left after (λ rest more. HeaderAnswers reader rest more (Err error))
    → HeaderCause reader next old new (Err error) → OfText told (λ text. StopsWith (certificates_of r) limits text error)
header-stops r limits reader next told left after old new is same error answers cause = by told same
  where
    whole : (text : List ℕ) → PassesWhole reader.limits reader.given text → PassesWhole limits 0 text
    whole text passes = subst (λ v. PassesWhole v.limits v.given text) is passes

    at : (text more : List ℕ) (e : ReadCertError) → HeaderAnswers reader text more (Err e) → HeaderCause reader next old new (Err e)
        → StopsWith (certificates_of r) limits text e
    at text more (Bad fault) answer because = inl (
      omega (arith, because.0, ap (λ (v : ReaderView). v.lines) is),
      heading_refused (certificates_of r) (Today false []) limits text fault.cause (heading-fault r limits reader is text fault.cause answer.0),
    )
    at text more (Work ReadFault) answer because = tt
    at text more (Work NoMemory) answer because = tt
    at text more (Work WriteFault) answer because = because
    at text more (Work (TooLarge Certificate)) answer because = inl (whole text answer.0)
    at text more (Work (TooLarge what)) answer because = absurd because

    by : (t : Option (List ℕ)) → left ≡ t → OfText t (λ text. StopsWith (certificates_of r) limits text error)
    by None e = tt
    by (Some text) e = let answer = subst (λ l. WhereTold l after (λ rest more. HeaderAnswers reader rest more (Err error))) e answers in
        at text answer.0 error answer.2 cause

-- no other number than these is passed first
no-present : (r : PackageList) (essential : Bool) (limits : Limits) (what : What) → what ≢ Variables → what ≢ Clauses → what ≢ Literals
    → ¬ PassesPresent r essential limits what
no-present r essential limits Clauses one two three passes = two refl
no-present r essential limits Literals one two three passes = three refl
no-present r essential limits what one two three passes = passes

no-later : (r : PackageList) (essential : Bool) (limits : Limits) (what : What) → what ≢ Variables → what ≢ Clauses → what ≢ Literals
    → ¬ PassesLater r essential limits what
no-later r essential limits Variables one two three passes = one refl
no-later r essential limits Clauses one two three passes = two refl
no-later r essential limits Literals one two three passes = three refl
no-later r essential limits what one two three passes = passes

pub no-first : (r : PackageList) (kind : CertKind) (essential : Bool) (limits : Limits) (what : What) → what ≢ Variables → what ≢ Clauses → what ≢ Literals
    → ¬ PassesFirst r kind essential limits what
no-first r kinds.Strong = no-present r
no-first r kinds.Outdated = no-later r
no-first r kinds.Challenged = no-later r

pub start-stops : FormsAreClear → (r : PackageList) (limits : Limits) (reader : ReaderView) (told left after : Option (List ℕ)) (h : Header)
    → reader ≡ new_reader limits → left ≡ told → (error : ReadCertError) → WhereTold left after (λ rest more. HeaderAnswers reader rest more (Ok h))
    → StartAnswers r limits h (Err error) → OfText told (λ text. StopsWith (certificates_of r) limits text error)
start-stops clear r limits reader told left after h is same error answers stops = by told same
  where
    keeps : (text more : List ℕ) → IsHeaderNext reader text more h → KeepsLimits limits 0 text
    keeps text more next = subst (λ v. KeepsLimits v.limits v.given text) is next.limits

    large : (text more : List ℕ) (next : IsHeaderNext reader text more h) (what : What) → PassesFirst r h.kind h.essential limits what
        → HasLargeInputs (certificates_of r) limits text what
    large text more next what passes =
        record { keeps = keeps text more next; h = h; line = next.line; more = more; begins = next.begins; form = next.form; passes = passes }

    other : (what : What) → PassesFirst r h.kind h.essential limits what → what ≢ Variables → what ≢ Clauses → what ≢ Literals → ⊥
    other what passes one two three = no-first r h.kind h.essential limits what one two three passes

    at : (text more : List ℕ) → IsHeaderNext reader text more h → (e : ReadCertError) → StartAnswers r limits h (Err e)
        → StopsWith (certificates_of r) limits text e
    at text more next (Bad fault) stop = inl (
      stop.0,
      subst (StopsFirst (certificates_of r) limits text) (sym stop.1)
          (heading_unfit (certificates_of r) (clear-kind clear r) stop.2.basis limits text next.line more h (keeps text more next) next.begins next.form
          stop.2.is_basis stop.2.within stop.2.wrong),
    )
    at text more next (Work (TooLarge Variables)) stop = large text more next Variables stop
    at text more next (Work (TooLarge Clauses)) stop = large text more next Clauses stop
    at text more next (Work (TooLarge Literals)) stop = large text more next Literals stop
    at text more next (Work (TooLarge Bytes)) stop = absurd (other Bytes stop (λ e. cc) (λ e. cc) (λ e. cc))
    at text more next (Work (TooLarge Stanzas)) stop = absurd (other Stanzas stop (λ e. cc) (λ e. cc) (λ e. cc))
    at text more next (Work (TooLarge Lines)) stop = absurd (other Lines stop (λ e. cc) (λ e. cc) (λ e. cc))
    at text more next (Work (TooLarge LineLiterals)) stop = absurd (other LineLiterals stop (λ e. cc) (λ e. cc) (λ e. cc))
    at text more next (Work (TooLarge RecordLine)) stop = absurd (other RecordLine stop (λ e. cc) (λ e. cc) (λ e. cc))
    at text more next (Work (TooLarge Certificate)) stop = absurd (other Certificate stop (λ e. cc) (λ e. cc) (λ e. cc))
    at text more next (Work NoMemory) stop = tt
    at text more next (Work error) stop = absurd stop

    by : (t : Option (List ℕ)) → left ≡ t → OfText t (λ text. StopsWith (certificates_of r) limits text error)
    by None e = tt
    by (Some text) e = let answer = subst (λ l. WhereTold l after (λ rest more. HeaderAnswers reader rest more (Ok h))) e answers in
        at text answer.0 answer.2 error stops

pub starts-checked : FormsAreClear → ModelsAreHealthy → (r : PackageList) → IsInOrder r.packages
    → (limits : Limits) (reader next : ReaderView) (told left after : Option (List ℕ)) (h : Header) (c : CheckerView) (s : StateView)
    → reader ≡ new_reader limits → left ≡ told → WhereTold left after (λ rest more. HeaderAnswers reader rest more (Ok h)) → HeaderOfSome reader (Ok h)
    → GivesHeader reader next (Ok h) → IsStart r limits h c s → IsChecked (certificate_lines r) limits told h next after c s
starts-checked clear models r ordered limits reader next told left after h c s is same answers some gives start = record {
  basis = start.basis;
  before = [];
  read = starts_read (certificates_of r) limits told start.basis h next after start.is_basis start.kept
      (ap (λ (v : ReaderView). v.limits) gives ∙ ap (λ (v : ReaderView). v.limits) is)
      (omega (arith, ap (λ (v : ReaderView). v.lines) gives, ap (λ (v : ReaderView). v.lines) is))
      (omega (arith, ap (λ (v : ReaderView). v.given) gives, ap (λ (v : ReaderView). v.given) is))
      (ap (λ (v : ReaderView). v.ended) gives ∙ ap (λ (v : ReaderView). v.ended) is) (by told same);
  reached = record {
    kept = starts-kept r limits h c s start (record {
      over = subst (λ cs. All (IsClauseOver (matter_of r start.basis).variables) cs) start.clauses
          (subst (λ n. All (IsClauseOver n) c.log.clauses) start.variables start.within.over_variables);
      models = models r h.kind h.essential start.basis ordered start.is_basis;
    });
    line_limit = start.line_limit;
    line_literal_limit = start.line_literal_limit;
    within = start.within;
    noted = starts-at r limits h c s start;
  };
}
  where
    at : (text more : List ℕ) → IsHeaderNext reader text more h → AreRight (rules_of (certificates_of r) start.basis) limits text h [] more
    at text more next_is = starts_faultless (certificates_of r) (clear-kind clear r) start.basis limits text next_is.line more h
        (subst (λ v. KeepsLimits v.limits v.given text) is next_is.limits) next_is.begins next_is.form start.fits

    by : (t : Option (List ℕ)) → left ≡ t → TextAt (certificates_of r) limits start.basis h [] t after
    by None e = λ more. from_text (certificates_of r) limits start.basis (header_text h ++ line_feed ∷ more) h [] more
        (at (header_text h ++ line_feed ∷ more) more (some more))
    by (Some text) e =
        let answer = subst (λ l. WhereTold l after (λ rest more. HeaderAnswers reader rest more (Ok h))) e answers in
        (answer.0, answer.1, at text answer.0 answer.2)

-- ---- causes, whatever is told

pub next-cause : (reader next : ReaderView) (entry old new : DeskView) (error : ReadCertError) → OnlyReads entry old → OnlyReads old new
    → RecordCause reader next old new (Err error) → TextCause entry new error
next-cause reader next entry old new (Bad fault) first second cause = tt
next-cause reader next entry old new (Work ReadFault) first second cause =
    rose_from entry.read_faults old.read_faults new.read_faults first.read_faults_stand second.read_faults_stand cause
next-cause reader next entry old new (Work WriteFault) first second cause = cause
next-cause reader next entry old new (Work NoMemory) first second cause = tt
next-cause reader next entry old new (Work (TooLarge Certificate)) first second cause = tt
next-cause reader next entry old new (Work (TooLarge what)) first second cause = absurd cause

pub header-cause : (reader next : ReaderView) (old new : DeskView) (error : ReadCertError) → HeaderCause reader next old new (Err error)
    → TextCause old new error
header-cause reader next old new (Bad fault) cause = tt
header-cause reader next old new (Work ReadFault) cause = cause
header-cause reader next old new (Work WriteFault) cause = cause
header-cause reader next old new (Work NoMemory) cause = tt
header-cause reader next old new (Work (TooLarge Certificate)) cause = tt
header-cause reader next old new (Work (TooLarge what)) cause = absurd cause

pub start-cause : (r : PackageList) (limits : Limits) (h : Header) (old new : DeskView) (error : ReadCertError) → StartAnswers r limits h (Err error)
    → TextCause old new error
start-cause r limits h old new (Bad fault) stops = tt
start-cause r limits h old new (Work NoMemory) stops = tt
start-cause r limits h old new (Work (TooLarge Variables)) stops = tt
start-cause r limits h old new (Work (TooLarge Clauses)) stops = tt
start-cause r limits h old new (Work (TooLarge Literals)) stops = tt
start-cause r limits h old new (Work (TooLarge Lines)) stops = tt
start-cause r limits h old new (Work (TooLarge LineLiterals)) stops = tt
start-cause r limits h old new (Work (TooLarge Certificate)) stops = tt
start-cause r limits h old new (Work (TooLarge Bytes)) stops = no-first r h.kind h.essential limits Bytes (λ e. cc) (λ e. cc) (λ e. cc) stops
start-cause r limits h old new (Work (TooLarge Stanzas)) stops = no-first r h.kind h.essential limits Stanzas (λ e. cc) (λ e. cc) (λ e. cc) stops
start-cause r limits h old new (Work (TooLarge RecordLine)) stops = no-first r h.kind h.essential limits RecordLine (λ e. cc) (λ e. cc) (λ e. cc) stops
start-cause r limits h old new (Work error) stops = absurd stops
