-- What the reading of a first line tells of the text.
use Rattle.std.proofs.Common.{◌≡◌, inl, inr, ⊎_elim, ℕ, List, [], ◌∷◌, ◌++◌, length, refl, sym, ap, subst, ◌∙◌}
use Rattle.std.proofs.Common.{append_assoc, arith, length-append}
use Rattle.std.proofs.lemmas.List.Elements.{All-nil}
use Rattle.dist_base.specs.Ascii.{line_feed}
use Rattle.dist_outside.specs.declared.limits.Limits.{Limits}
use Rattle.dist_cert.specs.declared.faults.CertCause.{CertCause}
use Rattle.dist_cert.specs.declared.faults.CertCause.TheVariants as causes
use Rattle.dist_cert.specs.declared.faults.CertFault.{CertFault}
use Rattle.dist_cert.specs.declared.records.CertRecord.{CertRecord}
use Rattle.dist_cert.specs.ByRecordsLaws.{whole_line}
use Rattle.dist_cert.specs.FileLines.{IsOneLine, BeginsWith, IsTooLong, lines_text, in_order, IsFirstOf, ReadsAs}
use Rattle.dist_cert.specs.FileLines.{HasHeadingFault, AreRight, IsRefusedFirst}
use Rattle.dist_cert.specs.Form.{record_text, HasForm}
use Rattle.dist_cert.specs.OneVerdictLaws.{has_first, one_line}
use Rattle.dist_cert.specs.Reading.{KeepsLimits, PassesWhole}
use Rattle.dist_judge.specs.ClearKindLaws.{BasesAreOne, IsClear}
use Rattle.dist_judge.specs.FileKind.{FileKind, rules_of}
use Rattle.dist_judge.specs.Judging.{IsJudgedBy, StopsFirst}

-- a line with its line feed is not one line
pub begins_whole : (text line more : List ℕ) → BeginsWith text line more → ¬ IsOneLine text
begins_whole text line more begins one = whole_line line more (subst IsOneLine begins.ended one)

pub same_begin : (text a b more other : List ℕ) → BeginsWith text a more → BeginsWith text b other
    → (a ≡ b) × (more ≡ other)
same_begin text a b more other x y = one_line a b more other x.one_line y.one_line (sym x.ended ∙ y.ended)

-- ---- what a text is judged by

-- the first line of a text is one
pub one_heading : (kind : FileKind) → IsClear kind → (text : List ℕ) (h other : kind.Heading)
    (line more next rest : List ℕ) → BeginsWith text line more → kind.HasHeadingForm line h
    → BeginsWith text next rest → kind.HasHeadingForm next other → other ≡ h
one_heading kind clear text h other line more next rest begins form also shape =
    clear.one_heading line other h (subst (λ l. kind.HasHeadingForm l other)
    (same_begin text next line rest more also begins).0 shape) form

-- a text with this first line is judged by its basis
pub judged_by : (kind : FileKind) → IsClear kind → (limits : Limits) (text line more : List ℕ) (h : kind.Heading)
    (basis : kind.Basis) → BeginsWith text line more → kind.HasHeadingForm line h → kind.IsBasisOf h basis
    → IsJudgedBy kind limits text basis
judged_by kind clear limits text line more h basis begins form is k next rest also shape short =
    subst (λ g. kind.IsBasisOf g basis) (sym (one_heading kind clear text h k line more next rest begins form also
    shape)) is

-- a first line that is not too long and has the form
pub record HasHeading (kind : FileKind) (limits : Limits) (text : List ℕ) : Type 0 where
  pub h : kind.Heading
  pub line : List ℕ
  pub more : List ℕ
  pub begins : BeginsWith text line more
  pub form : kind.HasHeadingForm line h
  pub short : ¬ IsTooLong limits text

pub same_judged : (kind : FileKind) → BasesAreOne kind → (limits : Limits) (text : List ℕ) (basis other : kind.Basis)
    → HasHeading kind limits text → IsJudgedBy kind limits text basis → IsJudgedBy kind limits text other
    → other ≡ basis
same_judged kind one limits text basis other x first second =
    one x.h basis other (first x.h x.line x.more x.begins x.form x.short)
    (second x.h x.line x.more x.begins x.form x.short)

-- the first line of a text that is read
pub heading_begins : (kind : FileKind) → IsClear kind → (text : List ℕ) (h : kind.Heading) (before : List CertRecord)
    (rest : List ℕ) → ReadsAs kind.heading_text kind.HasHeadingForm text h before rest
    → BeginsWith text (kind.heading_text h) (lines_text before ++ rest)
heading_begins kind clear text h before rest reads = record {
  ended = reads.text_is ∙ append_assoc (kind.heading_text h) (line_feed ∷ lines_text before) rest;
  one_line = clear.heading_line h reads.header;
}

pub reads_heading : (kind : FileKind) → IsClear kind → (basis : kind.Basis) (limits : Limits) (text : List ℕ)
    (h : kind.Heading) (before : List CertRecord) (rest : List ℕ)
    → AreRight (rules_of kind basis) limits text h before rest → HasHeading kind limits text
reads_heading kind clear basis limits text h before rest faultless = record {
  h = h;
  line = kind.heading_text h;
  more = lines_text before ++ rest;
  begins = heading_begins kind clear text h before rest faultless.reads;
  form = faultless.reads.header;
  short = λ long. faultless.first causes.LineTooLong long;
}

-- where a text is judged by something, what its first line is judged by is that
pub is_judged : (kind : FileKind) → IsClear kind → (basis : kind.Basis) (limits : Limits) (text : List ℕ)
    (h : kind.Heading) (before : List CertRecord) (rest : List ℕ)
    → AreRight (rules_of kind basis) limits text h before rest → kind.IsBasisOf h basis
    → IsJudgedBy kind limits text basis
is_judged kind clear basis limits text h before rest faultless is =
    judged_by kind clear limits text (kind.heading_text h) (lines_text before ++ rest) h basis
    (heading_begins kind clear text h before rest faultless.reads) faultless.reads.header is

-- ---- faults of the first line

-- The first of the faults that a first line has on its own, whatever it is judged by.
abbrev pub IsHeadingFault : FileKind → Limits → List ℕ → CertCause → Type 0
IsHeadingFault kind limits text causes.LineTooLong = (¬ PassesWhole limits 0 text) × IsTooLong limits text
IsHeadingFault kind limits text causes.Truncated = KeepsLimits limits 0 text × IsOneLine text
IsHeadingFault kind limits text causes.BadHeader = KeepsLimits limits 0 text × (line more : List ℕ)
    × BeginsWith text line more × ((h : kind.Heading) → ¬ kind.HasHeadingForm line h)
IsHeadingFault kind limits text cause = ⊥

-- it is the first one by any basis
pub heading_refused : (kind : FileKind) (any : kind.Basis) (limits : Limits) (text : List ℕ) (cause : CertCause)
    → IsHeadingFault kind limits text cause → StopsFirst kind limits text cause
heading_refused kind any limits text causes.LineTooLong f = record {
  basis = any;
  judged = λ h line more begins form short. absurd (short f.1);
  bytes = f.0;
  first = inl (f.1, refl);
  within = λ e. cc;
}
heading_refused kind any limits text causes.Truncated f = record {
  basis = any;
  judged = λ h line more begins form short. absurd (begins_whole text line more begins f.1);
  bytes = f.0.whole;
  first = inr (f.0.line, inl (f.1, refl));
  within = λ e. cc;
}
heading_refused kind any limits text causes.BadHeader f = record {
  basis = any;
  judged = λ h line more begins form short. absurd (never h line more begins form);
  bytes = f.0.whole;
  first = inr (
    f.0.line,
    inr (
      begins_whole text f.1 f.2 f.3,
      inl
          ((f.1, f.2, f.3, λ h form. absurd (f.4 h form)), refl),
    ),
  );
  within = λ is h line more begins form. absurd (never h line more begins form);
}
  where
    never : (h : kind.Heading) (line more : List ℕ) → BeginsWith text line more → ¬ kind.HasHeadingForm line h
    never h line more begins form = f.4 h (subst (λ l. kind.HasHeadingForm l h)
        (same_begin text line f.1 more f.2 begins f.3).0 form)
heading_refused kind any limits text cause f = absurd f

-- a first line with wrong numbers
pub heading_unfit : (kind : FileKind) → IsClear kind → (basis : kind.Basis) (limits : Limits)
    (text line more : List ℕ) (h : kind.Heading) → KeepsLimits limits 0 text → BeginsWith text line more
    → kind.HasHeadingForm line h → kind.IsBasisOf h basis → kind.IsWithin limits basis → (¬ kind.Fits basis h)
    → StopsFirst kind limits text causes.BadHeader
heading_unfit kind clear basis limits text line more h keeps begins form is within wrong = record {
  basis = basis;
  judged = judged_by kind clear limits text line more h basis begins form is;
  bytes = keeps.whole;
  first = inr (keeps.line, inr (begins_whole text line more begins, inl ((line, more, begins, never), refl)));
  within = λ e k next rest also shape. within;
}
  where
    never : (k : kind.Heading) → kind.HasHeadingForm line k → ¬ kind.Fits basis k
    never k shape fits = wrong (subst (kind.Fits basis) (clear.one_heading line k h shape form) fits)

-- the heading of a text, behind which nothing was read
pub starts_faultless : (kind : FileKind) → IsClear kind → (basis : kind.Basis) (limits : Limits)
    (text line more : List ℕ) (h : kind.Heading) → KeepsLimits limits 0 text → BeginsWith text line more
    → kind.HasHeadingForm line h → kind.Fits basis h → AreRight (rules_of kind basis) limits text h [] more
starts_faultless kind clear basis limits text line more h keeps begins form fits = record {
  reads = record {
    text_is = begins.ended ∙ ap (λ (l : List ℕ). l ++ line_feed ∷ more) is
        ∙ sym (append_assoc (kind.heading_text h) (line_feed ∷ []) more);
    header = subst (λ l. kind.HasHeadingForm l h) is form;
    records = All-nil (λ step. HasForm (record_text step) step);
  };
  first = first;
  later = λ earlier step others e. absurd (not_among earlier step others e);
}
  where
    is : line ≡ kind.heading_text h
    is = clear.heading_is line h form

    first : (cause : CertCause) → ¬ HasHeadingFault (rules_of kind basis) limits text cause
    first causes.LineTooLong f = keeps.line f
    first causes.Truncated f = begins_whole text line more begins f
    first causes.BadHeader f =
        f.3 h (subst (λ l. kind.HasHeadingForm l h) (same_begin text line f.0 more f.1 begins f.2).0 form) fits
    first cause f = f

    not_among : (earlier : List CertRecord) (step : CertRecord) (others : List CertRecord)
        → [] ≡ earlier ++ step ∷ others → ⊥
    not_among earlier step others e = let n = ap length e in omega (arith, n, length-append earlier (step ∷ others))

-- ---- two refusals, by whatever they are judged

abbrev later : List CertCause
later = causes.BadRecord ∷ causes.OutOfRange ∷ causes.OutOfOrder ∷ causes.UnknownLine ∷ causes.BadLine
    ∷ causes.NotAFuture ∷ causes.NotAnInstallation ∷ causes.LimitNotReached ∷ causes.NotNew ∷ causes.WrongClaim
    ∷ causes.Incomplete ∷ []

-- the first line's fault is told without what is judged by
first_causes : (kind : FileKind) (basis other : kind.Basis) (limits : Limits) (text : List ℕ) (cause also : CertCause)
    → IsFirstOf in_order (HasHeadingFault (rules_of kind basis) limits text) cause
    → IsFirstOf in_order (HasHeadingFault (rules_of kind other) limits text) also → cause ≡ also
first_causes kind basis other limits text cause also first second = ⊎_elim
    (λ x. ⊎_elim (λ y. x.1 ∙ sym y.1) (λ y. absurd (y.0 x.0)) second)
    (λ x. ⊎_elim (λ y. absurd (x.0 y.0)) (λ y. shorter x.0 x.1 y.1) second)
    first
  where
    -- it is bad, where it is neither too long nor cut off
    bad : (b : kind.Basis) (c : CertCause) → (¬ IsTooLong limits text) → (¬ IsOneLine text)
        → HasHeadingFault (rules_of kind b) limits text c → c ≡ causes.BadHeader
    bad b causes.LineTooLong short whole fault = absurd (short fault)
    bad b causes.Truncated short whole fault = absurd (whole fault)
    bad b causes.BadHeader short whole fault = refl
    bad b c short whole fault = absurd fault

    shorter : (¬ IsTooLong limits text)
        → IsFirstOf (causes.Truncated ∷ causes.BadHeader ∷ later) (HasHeadingFault (rules_of kind basis) limits text)
        cause
        → IsFirstOf (causes.Truncated ∷ causes.BadHeader ∷ later) (HasHeadingFault (rules_of kind other) limits text)
        also → cause ≡ also
    shorter short one two = ⊎_elim
        (λ x. ⊎_elim (λ y. x.1 ∙ sym y.1) (λ y. absurd (y.0 x.0)) two)
        (λ x. ⊎_elim (λ y. absurd (x.0 y.0)) (λ y.
        bad basis cause short x.0 (has_first (HasHeadingFault (rules_of kind basis) limits text)
        (causes.BadHeader ∷ later) cause x.1)
        ∙ sym (bad other also short x.0 (has_first (HasHeadingFault (rules_of kind other) limits text)
        (causes.BadHeader ∷ later) also y.1))) two)
        one

pub same_fault : (fault other : CertFault) → fault.line ≡ other.line → fault.cause ≡ other.cause → fault ≡ other
same_fault fault other line cause = subst (λ n. fault ≡ record { line = n; cause = other.cause }) line
    (ap (λ c. record { line = fault.line; cause = c }) cause)

pub one_first_line : (kind : FileKind) (basis other : kind.Basis) (limits : Limits) (text : List ℕ)
    (fault also : CertFault) → IsRefusedFirst (rules_of kind basis) limits text fault
    → IsRefusedFirst (rules_of kind other) limits text also → fault ≡ also
one_first_line kind basis other limits text fault also x y =
    same_fault fault also (x.line ∙ sym y.line)
    (first_causes kind basis other limits text fault.cause also.cause x.cause y.cause)
