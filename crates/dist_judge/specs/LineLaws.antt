-- From what is told of a line behind others to what is told of the text.
use Rattle.std.proofs.Common.{◌≡◌, ◌≢◌, inl, inr, ⊎_elim, ℕ, ◌+◌, ◌<◌, ◌||◌, Bool, true, false, List, [], ◌∷◌, ◌++◌}
use Rattle.std.proofs.Common.{length, refl, sym, ap, subst, ◌∙◌, arith, length-append}
use Rattle.std.specs.List.{All, Contains, list_any}
use Rattle.std.proofs.lemmas.Bool.{false≢true, or_cases, or_left, or_right, or_parts, cases_lt}
use Rattle.std.proofs.lemmas.Grind.{flat_map-append}
use Rattle.std.proofs.lemmas.List.{append-nil, take-append-le}
use Rattle.std.proofs.lemmas.List.Elements.{All-push, All-take}
use Rattle.dist_base.specs.Ascii.{line_feed}
use Rattle.dist_outside.specs.declared.limits.Limits.{Limits}
use Rattle.dist_clause.specs.Formula.{Literal}
use Rattle.dist_cert.specs.declared.faults.CertCause.{CertCause}
use Rattle.dist_cert.specs.declared.faults.CertCause.TheVariants as causes
use Rattle.dist_cert.specs.declared.faults.CertFault.{CertFault}
use Rattle.dist_cert.specs.declared.records.CertRecord.{CertRecord}
use Rattle.dist_cert.specs.declared.records.CertRecord.TheVariants.{Derived, End}
use Rattle.dist_cert.specs.ByRecordsLaws.{line_to_record, record_to_line, map_first}
use Rattle.dist_cert.specs.FileLines.{IsOneLine, BeginsWith, IsTooLong, lines_text, file_text, in_order, IsFirstOf}
use Rattle.dist_cert.specs.FileLines.{HasFaultBehind, AreRight}
use Rattle.dist_cert.specs.Form.{Word, record_text, HasForm, is_end}
use Rattle.dist_cert.specs.Groups.{clause_of, derived}
use Rattle.dist_cert.specs.ListLaws.{contains-cases, contains-later}
use Rattle.dist_cert.specs.Reading.{ReaderView, PassesWhole, KeepsLimits, RecordFault}
use Rattle.dist_cert.specs.SomeVerdictLaws.{split_push, grown}
use Rattle.dist_judge.specs.ClearKindLaws.{IsClear}
use Rattle.dist_judge.specs.FileKind.{FileKind, rules_of}
use Rattle.dist_judge.specs.HeadingLaws.{begins_whole}
use Rattle.dist_judge.specs.Judging.{IsReached, StopsLater, StopsAtDerived}

-- ---- the end line

is_the_end : (step : CertRecord) → is_end step ≡ true → step ≡ End
is_the_end End e = refl
is_the_end step e = absurd (false≢true e)

pub ended_from : (steps : List CertRecord) → list_any is_end steps ≡ true → Contains steps End
ended_from [] e = absurd (false≢true e)
ended_from (step ∷ steps) e = elim (or_cases (is_end step) (list_any is_end steps) e) [
  | inl here ↦ (0, omega arith, is_the_end step here)
  | inr later ↦ contains-later step steps End (ended_from steps later)
]

pub from_ended : (steps : List CertRecord) → Contains steps End → list_any is_end steps ≡ true
from_ended [] there = absurd (omega (arith, there.1))
from_ended (step ∷ steps) there = elim (contains-cases step steps End there) [
  | inl here ↦ or_left (is_end step) (list_any is_end steps) (ap is_end here)
  | inr later ↦ or_right (is_end step) (list_any is_end steps) (from_ended steps later)
]

pub ended_push : (steps : List CertRecord) (step : CertRecord) → list_any is_end steps ≡ false
    → list_any is_end (steps ++ step ∷ []) ≡ is_end step
ended_push [] step none = or_false (is_end step)
  where
    or_false : (b : Bool) → (b || false) ≡ b
    or_false true = refl
    or_false false = refl
ended_push (s ∷ steps) step none =
    let parts = or_parts (is_end s) (list_any is_end steps) none in
    ap (λ (b : Bool). b || list_any is_end (steps ++ step ∷ [])) parts.0 ∙ ended_push steps step parts.1

-- ---- a later line

-- the line behind lines that are reached has a fault of form, cut or length
pub record_refused : (kind : FileKind) → IsClear kind
    → (basis : kind.Basis) (limits : Limits) (text : List ℕ) (h : kind.Heading)
    (before : List CertRecord) (rest : List ℕ) (reader : ReaderView) → IsReached kind basis limits text h before rest
    → reader.limits ≡ limits → reader.given ≡ length (file_text (kind.heading_text h) before)
    → reader.ended ≡ list_any is_end before → (fault : CertFault) → fault.line ≡ length before + 2
    → RecordFault reader rest fault.cause → StopsLater kind limits text fault
record_refused kind clear basis limits text h before rest reader reached same given ended fault line bad =
    by fault.cause refl (subst (λ l. RecordFault (record reader {
      limits = l;
      given = length (file_text (kind.heading_text h) before);
      ended = list_any is_end before;
    }) rest fault.cause) same
    (subst (λ n. RecordFault (record reader { given = n; ended = list_any is_end before }) rest fault.cause) given
    (subst (λ e. RecordFault (record reader { ended = e }) rest fault.cause) ended bad)))
  where
    Has : CertCause → Type 0
    Has = HasFaultBehind (kind.HasFault basis h) limits before rest

    stops : (c : CertCause) → fault.cause ≡ c
        → ¬ PassesWhole limits (length (file_text (kind.heading_text h) before)) rest → IsFirstOf in_order Has c
        → StopsLater kind limits text fault
    stops c is bytes first = record {
      basis = basis;
      h = h;
      before = before;
      rest = rest;
      reached = reached;
      bytes = bytes;
      line = line;
      first = subst (IsFirstOf in_order Has) (sym is) first;
    }

    by : (c : CertCause) → fault.cause ≡ c → RecordFault (record reader {
      limits = limits;
      given = length (file_text (kind.heading_text h) before);
      ended = list_any is_end before;
    }) rest c → StopsLater kind limits text fault
    by causes.LineTooLong is f = stops causes.LineTooLong is f.0 (inl (f.1, refl))
    by causes.Truncated is f = stops causes.Truncated is f.0.whole (inr (
      f.0.line,
      inl (
        (
          f.1.0,
          elim f.1.1 [
            | inl some ↦ inl some
            | inr open_still ↦ inr (λ there. open_still (from_ended before there))
          ],
        ),
        refl,
      ),
    ))
    by causes.BadRecord is f = stops causes.BadRecord is f.0.whole (inr (
      f.0.line,
      inr (
        (λ cut. begins_whole rest f.1.0 f.1.1 f.1.2 cut.0),
        inr (
          (λ bad_step. clear.not_heading basis h before bad_step.2 bad_step.5),
          inl (
            (
              f.1.0,
              f.1.1,
              f.1.2,
              elim f.1.3 [
                | inl after ↦ inl (ended_from before after)
                | inr none ↦ inr none
              ],
            ),
            refl,
          ),
        ),
      ),
    ))
    by c is f = absurd f

-- a line is short where it is not too long
short_line : (limits : Limits) (line more : List ℕ) → IsOneLine line → ¬ IsTooLong limits (line ++ line_feed ∷ more)
    → length line < limits.record_line
short_line limits line more one keeps = elim (cases_lt (length line) limits.record_line) [
  | inl less ↦ less
  | inr past ↦ absurd (keeps (
    omega (arith, past, length-append line (line_feed ∷ more)),
    subst IsOneLine (sym (take-append-le limits.record_line line (line_feed ∷ more) past))
        (All-take (λ byte. byte ≢ line_feed) limits.record_line line one),
  ))
]

-- A line with the form of a record, behind lines that are reached.
pub record IsLineNext (kind : FileKind) (basis : kind.Basis) (limits : Limits) (text : List ℕ) (h : kind.Heading)
    (before : List CertRecord) (rest line more : List ℕ) (step : CertRecord) : Type 0 where
  pub reached : IsReached kind basis limits text h before rest
  pub keeps : KeepsLimits limits (length (file_text (kind.heading_text h) before)) rest
  pub begins : BeginsWith rest line more
  pub form : HasForm line step
  pub open_still : ¬ Contains before End

-- the record has no fault behind the others; this is its first one
abbrev pub IsFaultless : (kind : FileKind) → kind.Basis → kind.Heading → List CertRecord → CertRecord → Type 0
IsFaultless kind basis h before step = (cause : CertCause) → ¬ kind.HasFault basis h before step cause

abbrev pub HasFirst : (kind : FileKind) → kind.Basis → kind.Heading → List CertRecord → CertRecord → CertCause
    → Type 0
HasFirst kind basis h before step cause = IsFirstOf in_order (kind.HasFault basis h before step) cause

module _ (kind : FileKind) (clear : IsClear kind) (basis : kind.Basis) (limits : Limits) (text : List ℕ)
    (h : kind.Heading) (before : List CertRecord) (rest line more : List ℕ) (step : CertRecord)
    (x : IsLineNext kind basis limits text h before rest line more step) where
  next_is : rest ≡ record_text step ++ line_feed ∷ more
  next_is = x.begins.ended ∙ ap (λ (l : List ℕ). l ++ line_feed ∷ more) x.form.text

  next_form : HasForm (record_text step) step
  next_form = subst (λ l. HasForm l step) x.form.text x.form

  to_record : (cause : CertCause) → HasFaultBehind (kind.HasFault basis h) limits before rest cause
      → kind.HasFault basis h before step cause
  to_record cause fault =
      line_to_record clear.records (kind.HasFault basis h) limits before step more next_form x.open_still
      (short_line limits (record_text step) more (clear.records.record_line step next_form)
      (subst (λ bytes. ¬ IsTooLong limits bytes) next_is x.keeps.line)) cause
      (subst (λ bytes. HasFaultBehind (kind.HasFault basis h) limits before bytes cause) next_is fault)

  from_record : (cause : CertCause) → kind.HasFault basis h before step cause
      → HasFaultBehind (kind.HasFault basis h) limits before rest cause
  from_record cause fault =
      subst (λ bytes. HasFaultBehind (kind.HasFault basis h) limits before bytes cause) (sym next_is)
      (record_to_line clear.records (kind.HasFault basis h) limits before step more next_form
      (clear.of_records basis h before step) cause fault)

  pub step_refused : (fault : CertFault) → fault.line ≡ length before + 2
      → HasFirst kind basis h before step fault.cause
      → StopsLater kind limits text fault
  step_refused fault number first = record {
    basis = basis;
    h = h;
    before = before;
    rest = rest;
    reached = x.reached;
    bytes = x.keeps.whole;
    line = number;
    first = map_first (kind.HasFault basis h before step) (HasFaultBehind (kind.HasFault basis h) limits before rest)
        from_record to_record in_order fault.cause first;
  }

  pub step_none : IsFaultless kind basis h before step → (cause : CertCause)
      → ¬ HasFaultBehind (kind.HasFault basis h) limits before rest cause
  step_none faultless cause fault = faultless cause (to_record cause fault)

  pub step_reached : IsFaultless kind basis h before step
      → AreRight (rules_of kind basis) limits text h (before ++ step ∷ []) more
  step_reached faultless =
      grown (rules_of kind basis) limits text h before rest line more step x.reached.faultless (step_none faultless)
      x.begins x.form

pub stops_derived : (kind : FileKind) → IsClear kind → (basis : kind.Basis) (limits : Limits) (text : List ℕ)
    (h : kind.Heading) (before : List CertRecord) (rest line more : List ℕ) (literals : List Word) (hints : List ℕ)
    → IsLineNext kind basis limits text h before rest line more (Derived literals hints)
    → IsFaultless kind basis h before (Derived literals hints)
    → (Passes : List (List Literal) → List Literal → Type 0)
    → Passes (derived before) (clause_of literals) → StopsAtDerived kind limits text Passes
stops_derived kind clear basis limits text h before rest line more literals hints x faultless Passes passes = record {
  basis = basis;
  h = h;
  before = before;
  rest = rest;
  reached = x.reached;
  keeps = x.keeps;
  literals = literals;
  hints = hints;
  line = line;
  more = more;
  begins = x.begins;
  form = x.form;
  none = step_none kind clear basis limits text h before rest line more (Derived literals hints) x faultless;
  passes = passes;
}

-- ---- the end of the text

nothing_begins : (line more : List ℕ) → [] ≡ line ++ line_feed ∷ more → ⊥
nothing_begins line more e = let n = ap length e in omega (arith, n, length-append line (line_feed ∷ more))

pub end_none : (HasFault : List CertRecord → CertRecord → CertCause → Type 0) (limits : Limits)
    (before : List CertRecord) → ¬ IsTooLong limits [] → Contains before End → (cause : CertCause)
    → ¬ HasFaultBehind HasFault limits before [] cause
end_none HasFault limits before keeps ended causes.LineTooLong f = keeps f
end_none HasFault limits before keeps ended causes.Truncated f =
    ⊎_elim (λ some. some refl) (λ none. none ended) f.1
end_none HasFault limits before keeps ended causes.BadRecord f = nothing_begins f.0 f.1 f.2.ended
end_none HasFault limits before keeps ended cause f = nothing_begins f.0 f.1 f.3.ended

-- ---- records that were right

-- no record has a fault behind those before it
abbrev pub AreFaultless : (kind : FileKind) → kind.Basis → kind.Heading → List CertRecord → Type 0
AreFaultless kind basis h steps = (before : List CertRecord) (step : CertRecord) (after : List CertRecord)
    → steps ≡ before ++ step ∷ after → IsFaultless kind basis h before step

abbrev pub HaveForms : List CertRecord → Type 0
HaveForms steps = All (λ step. HasForm (record_text step) step) steps

pub faultless_push : (kind : FileKind) (basis : kind.Basis) (h : kind.Heading) (before : List CertRecord)
    (step : CertRecord) → AreFaultless kind basis h before → IsFaultless kind basis h before step
    → AreFaultless kind basis h (before ++ step ∷ [])
faultless_push kind basis h before step right faultless earlier s after is cause fault =
    elim (split_push before earlier after s step is) [
      | inl here ↦
          let Fault : List CertRecord → CertRecord → Type 0 = λ ls x. kind.HasFault basis h ls x cause in
          faultless cause (subst (λ x. Fault before x) here.1 (subst (λ ls. Fault ls s) here.0 fault))
      | inr later ↦ right earlier s later.0 later.1 cause fault
    ]

pub faultless_none : (kind : FileKind) (basis : kind.Basis) (h : kind.Heading) → AreFaultless kind basis h []
faultless_none kind basis h earlier s after is cause fault =
    let n = ap length is in omega (arith, n, length-append earlier (s ∷ after))

pub forms_push : (before : List CertRecord) (step : CertRecord) → HaveForms before → HasForm (record_text step) step
    → HaveForms (before ++ step ∷ [])
forms_push before step forms form = All-push (λ s. HasForm (record_text s) s) before step forms form

-- how many bytes a line is
pub text_push : (first : List ℕ) (before : List CertRecord) (step : CertRecord)
    → length (file_text first (before ++ step ∷ [])) ≡ length (file_text first before) + (length (record_text step) + 1)
text_push first before step =
    let one : CertRecord → List ℕ = λ s. record_text s ++ line_feed ∷ [] in
    let more : lines_text (before ++ step ∷ []) ≡ lines_text before ++ (record_text step ++ line_feed ∷ [])
    = flat_map-append one before (step ∷ [])
    ∙ ap (λ (bytes : List ℕ). lines_text before ++ bytes) (append-nil (record_text step ++ line_feed ∷ [])) in
    omega (
      arith,
      length-append first (line_feed ∷ lines_text (before ++ step ∷ [])),
      length-append first (line_feed ∷ lines_text before),
      ap (λ (bytes : List ℕ). length bytes) more,
      length-append (lines_text before) (record_text step ++ line_feed ∷ []),
      length-append (record_text step) (line_feed ∷ []),
    )
