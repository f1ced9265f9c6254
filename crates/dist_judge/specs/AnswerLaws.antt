-- A text has one answer, but for a fault of reading and want of memory. Two reasons to stop at one place are the same,
-- and none stands before another one.
use Rattle.std.proofs.Common.{◌≡◌, ◌⊎◌, ⊎_elim, inl, inr, ℕ, ◌+◌, ◌-◌, ◌<◌, ◌≤◌, List, [], ◌∷◌, ◌++◌, Ok, Err, Result}
use Rattle.std.proofs.Common.{length, take, refl, ap, sym, subst, ◌∙◌, append_assoc, arith, length-append}
use Rattle.std.specs.List.{All}
use Rattle.std.proofs.lemmas.Grind.{flat_map-append}
use Rattle.std.proofs.lemmas.List.Sums.{sum_by-append, sum_by-cons}
use Rattle.dist_base.specs.Ascii.{line_feed}
use Rattle.dist_outside.specs.declared.limits.Limits.{Limits}
use Rattle.dist_outside.specs.declared.trouble.What.{What}
use Rattle.dist_outside.specs.declared.trouble.What.TheVariants.{Bytes, Stanzas, Variables, Clauses, Literals, Lines}
use Rattle.dist_outside.specs.declared.trouble.What.TheVariants.{LineLiterals, Certificate, RecordLine}
use Rattle.dist_outside.specs.declared.trouble.WorkError.TheVariants.{ReadFault, WriteFault, TooLarge, NoMemory}
use Rattle.dist_clause.specs.ClauseList.{literal_count}
use Rattle.dist_clause.specs.Formula.{Literal}
use Rattle.dist_cert.specs.declared.faults.CertCause.{CertCause}
use Rattle.dist_cert.specs.declared.faults.CertCause.TheVariants as causes
use Rattle.dist_cert.specs.declared.faults.CertFault.{CertFault}
use Rattle.dist_cert.specs.declared.faults.ReadCertError.{ReadCertError}
use Rattle.dist_cert.specs.declared.faults.ReadCertError.TheVariants.{Bad, Work}
use Rattle.dist_cert.specs.declared.records.CertRecord.{CertRecord}
use Rattle.dist_cert.specs.declared.records.CertRecord.TheVariants.{Derived}
use Rattle.dist_cert.specs.ByRecordsLaws.{within}
use Rattle.dist_cert.specs.ClearFormsLaws.{RecordsAreClear}
use Rattle.dist_cert.specs.FileLines.{IsOneLine, BeginsWith, lines_text, file_text, in_order, IsFirstOf}
use Rattle.dist_cert.specs.FileLines.{HasHeadingFault}
use Rattle.dist_cert.specs.FileLines.{HasFaultBehind}
use Rattle.dist_cert.specs.Form.{Word, record_text, HasForm}
use Rattle.dist_cert.specs.Groups.{clause_of, derived, derived_in}
use Rattle.dist_cert.specs.GroupLaws.{all-at}
use Rattle.dist_cert.specs.OneVerdictLaws.{has_first, one_first, one_line, first_line_of, not_faulty, nothing_more}
use Rattle.dist_cert.specs.OneVerdictLaws.{readings, IsShorter}
use Rattle.dist_cert.specs.Reading.{PassesWhole, KeepsLimits}
use Rattle.dist_judge.specs.ClearKindLaws.{BasesAreOne, IsClear, clear_rules}
use Rattle.dist_judge.specs.FileKind.{FileKind, rules_of}
use Rattle.dist_judge.specs.HeadingLaws.{begins_whole, heading_begins, is_judged, one_first_line, one_heading}
use Rattle.dist_judge.specs.HeadingLaws.{same_fault}
use Rattle.dist_judge.specs.HeadingLaws.{reads_heading, same_judged}
use Rattle.dist_judge.specs.Judging.{FillsLines, FillsLiterals, HasInputsWithin, HasLargeInputs, IsCompleted}
use Rattle.dist_judge.specs.Judging.{IsJudgedBy}
use Rattle.dist_judge.specs.Judging.{IsReached, StopsWith}

-- what is answered of a text: its heading and records, or why not
abbrev pub Answer : FileKind → Type 0
Answer kind = Result (kind.Heading × List CertRecord) ReadCertError

-- The line behind these records is a derived line without a fault, and with it a number is passed.
pub record IsPassing (kind : FileKind) (basis : kind.Basis) (limits : Limits) (h : kind.Heading)
    (before : List CertRecord) (rest : List ℕ)
    (Passes : List (List Literal) → List Literal → Type 0) : Type 0 where
  pub keeps : KeepsLimits limits (length (file_text (kind.heading_text h) before)) rest
  pub literals : List Word
  pub hints : List ℕ
  pub line : List ℕ
  pub more : List ℕ
  pub begins : BeginsWith rest line more
  pub form : HasForm line (Derived literals hints)
  pub none : (cause : CertCause) → ¬ HasFaultBehind (kind.HasFault basis h) limits before rest cause
  pub passes : Passes (derived before) (clause_of literals)

-- The line behind these records has this fault first.
pub record IsFaulty (kind : FileKind) (basis : kind.Basis) (limits : Limits) (h : kind.Heading)
    (before : List CertRecord) (rest : List ℕ) (fault : CertFault) : Type 0 where
  pub bytes : ¬ PassesWhole limits (length (file_text (kind.heading_text h) before)) rest
  pub line : fault.line ≡ length before + 2
  pub first : IsFirstOf in_order (HasFaultBehind (kind.HasFault basis h) limits before rest) fault.cause

-- These records are all, and no line is missing behind them.
pub record IsDone (kind : FileKind) (basis : kind.Basis) (limits : Limits) (h : kind.Heading) (before : List CertRecord)
    (rest : List ℕ) (told : kind.Heading) (made : List CertRecord) : Type 0
  where
    pub header : told ≡ h
    pub claims : made ≡ before
    pub nothing : rest ≡ []
    pub ends : (cause : CertCause) → ¬ HasFaultBehind (kind.HasFault basis h) limits before [] cause

-- why a check stops behind these records with an answer
abbrev pub Reason : (kind : FileKind) → kind.Basis → Limits → kind.Heading → List CertRecord → List ℕ → Answer kind
    → Type 0
Reason kind basis limits h before rest (Ok (told, made)) = IsDone kind basis limits h before rest told made
Reason kind basis limits h before rest (Err (Bad fault)) = IsFaulty kind basis limits h before rest fault
Reason kind basis limits h before rest (Err (Work (TooLarge Lines))) = IsPassing kind basis limits h before rest
    (FillsLines limits)
Reason kind basis limits h before rest (Err (Work (TooLarge LineLiterals))) =
    IsPassing kind basis limits h before rest (FillsLiterals limits)
Reason kind basis limits h before rest (Err (Work (TooLarge Certificate))) = PassesWhole limits
    (length (file_text (kind.heading_text h) before)) rest
Reason kind basis limits h before rest other = ⊥

-- ---- two reasons at one place

pub nothing_begins : (line more rest : List ℕ) → rest ≡ [] → BeginsWith rest line more → ⊥
nothing_begins line more rest none begins = let n = ap length (sym none ∙ begins.ended) in omega
    (arith, n, length-append line (line_feed ∷ more))

done_not_faulty : (kind : FileKind) (basis : kind.Basis) (limits : Limits) (h : kind.Heading) (before : List CertRecord)
    (rest : List ℕ) (told : kind.Heading) (made : List CertRecord)
    (fault : CertFault)
    → IsDone kind basis limits h before rest told made → IsFaulty kind basis limits h before rest fault → ⊥
done_not_faulty kind basis limits h before rest told made fault done faulty =
    done.ends fault.cause (subst (λ bytes. HasFaultBehind (kind.HasFault basis h) limits before bytes fault.cause)
    done.nothing
    (has_first (HasFaultBehind (kind.HasFault basis h) limits before rest) in_order fault.cause faulty.first))

passing_not_faulty : (kind : FileKind) (basis : kind.Basis) (limits : Limits) (h : kind.Heading)
    (before : List CertRecord) (rest : List ℕ)
    (Passes : List (List Literal) → List Literal → Type 0) (fault : CertFault)
    → IsPassing kind basis limits h before rest Passes → IsFaulty kind basis limits h before rest fault → ⊥
passing_not_faulty kind basis limits h before rest Passes fault passing faulty =
    passing.none fault.cause (has_first (HasFaultBehind (kind.HasFault basis h) limits before rest) in_order fault.cause
    faulty.first)

done_keeps : (limits : Limits) (n : ℕ) (rest : List ℕ) → n ≤ limits.certificate → rest ≡ []
    → ¬ PassesWhole limits n rest
done_keeps limits n rest within none passes = let long = ap length none in omega (arith, within, long, passes.passed)

lines_not_literals : (kind : FileKind) (basis : kind.Basis) (limits : Limits) (h : kind.Heading)
    (before : List CertRecord) (rest : List ℕ)
    → IsPassing kind basis limits h before rest (FillsLines limits)
    → IsPassing kind basis limits h before rest (FillsLiterals limits) → ⊥
lines_not_literals kind basis limits h before rest lines literals = omega (arith, lines.passes, literals.passes.0)

pub same_reason : (kind : FileKind) (basis : kind.Basis) (limits : Limits) (h : kind.Heading) (before : List CertRecord)
    (rest : List ℕ) (one other : Answer kind)
    → length (file_text (kind.heading_text h) before) ≤ limits.certificate
    → Reason kind basis limits h before rest one → Reason kind basis limits h before rest other → one ≡ other
same_reason kind basis limits h before rest (Ok (g, made)) (Ok (k, claims)) kept x y =
    ap (λ n. Ok (n, made)) (x.header ∙ sym y.header) ∙ ap (λ n. Ok (k, n)) (x.claims ∙ sym y.claims)
same_reason kind basis limits h before rest (Ok (g, made)) (Err (Bad fault)) kept x y =
    absurd (done_not_faulty kind basis limits h before rest g made fault x y)
same_reason kind basis limits h before rest (Ok (g, made)) (Err (Work (TooLarge Lines))) kept x y = absurd
    (nothing_begins y.line y.more rest x.nothing y.begins)
same_reason kind basis limits h before rest (Ok (g, made)) (Err (Work (TooLarge LineLiterals))) kept x y =
    absurd (nothing_begins y.line y.more rest x.nothing y.begins)
same_reason kind basis limits h before rest (Ok (g, made)) (Err (Work (TooLarge Certificate))) kept x y =
    absurd (done_keeps limits (length (file_text (kind.heading_text h) before)) rest kept x.nothing y)
same_reason kind basis limits h before rest (Err (Bad fault)) (Ok (g, made)) kept x y =
    absurd (done_not_faulty kind basis limits h before rest g made fault y x)
same_reason kind basis limits h before rest (Err (Bad fault)) (Err (Bad other)) kept x y =
    ap (λ f. Err (Bad f)) (same_fault fault other (x.line ∙ sym y.line)
    (one_first (HasFaultBehind (kind.HasFault basis h) limits before rest) in_order fault.cause other.cause x.first
    y.first))
same_reason kind basis limits h before rest (Err (Bad fault)) (Err (Work (TooLarge Lines))) kept x y =
    absurd (passing_not_faulty kind basis limits h before rest _ fault y x)
same_reason kind basis limits h before rest (Err (Bad fault)) (Err (Work (TooLarge LineLiterals))) kept x y =
    absurd (passing_not_faulty kind basis limits h before rest _ fault y x)
same_reason kind basis limits h before rest (Err (Bad fault)) (Err (Work (TooLarge Certificate))) kept x y = absurd
    (x.bytes y)
same_reason kind basis limits h before rest (Err (Work (TooLarge Lines))) (Ok (g, made)) kept x y = absurd
    (nothing_begins x.line x.more rest y.nothing x.begins)
same_reason kind basis limits h before rest (Err (Work (TooLarge Lines))) (Err (Bad fault)) kept x y =
    absurd (passing_not_faulty kind basis limits h before rest _ fault x y)
same_reason kind basis limits h before rest (Err (Work (TooLarge Lines))) (Err (Work (TooLarge Lines))) kept x y = refl
same_reason kind basis limits h before rest (Err (Work (TooLarge Lines)))
    (Err (Work (TooLarge LineLiterals))) kept x y =
    absurd (lines_not_literals kind basis limits h before rest x y)
same_reason kind basis limits h before rest (Err (Work (TooLarge Lines)))
    (Err (Work (TooLarge Certificate))) kept x y = absurd (x.keeps.whole y)
same_reason kind basis limits h before rest (Err (Work (TooLarge LineLiterals))) (Ok (g, made)) kept x y =
    absurd (nothing_begins x.line x.more rest y.nothing x.begins)
same_reason kind basis limits h before rest (Err (Work (TooLarge LineLiterals))) (Err (Bad fault)) kept x y =
    absurd (passing_not_faulty kind basis limits h before rest _ fault x y)
same_reason kind basis limits h before rest (Err (Work (TooLarge LineLiterals)))
    (Err (Work (TooLarge Lines))) kept x y =
    absurd (lines_not_literals kind basis limits h before rest y x)
same_reason kind basis limits h before rest (Err (Work (TooLarge LineLiterals)))
    (Err (Work (TooLarge LineLiterals))) kept x y = refl
same_reason kind basis limits h before rest (Err (Work (TooLarge LineLiterals)))
    (Err (Work (TooLarge Certificate))) kept x y = absurd (x.keeps.whole y)
same_reason kind basis limits h before rest (Err (Work (TooLarge Certificate))) (Ok (g, made)) kept x y =
    absurd (done_keeps limits (length (file_text (kind.heading_text h) before)) rest kept y.nothing x)
same_reason kind basis limits h before rest (Err (Work (TooLarge Certificate))) (Err (Bad fault)) kept x y = absurd
    (y.bytes x)
same_reason kind basis limits h before rest (Err (Work (TooLarge Certificate)))
    (Err (Work (TooLarge Lines))) kept x y = absurd (y.keeps.whole x)
same_reason kind basis limits h before rest (Err (Work (TooLarge Certificate)))
    (Err (Work (TooLarge LineLiterals))) kept x y = absurd (y.keeps.whole x)
same_reason kind basis limits h before rest (Err (Work (TooLarge Certificate)))
    (Err (Work (TooLarge Certificate))) kept x y = refl
same_reason kind basis limits h before rest (Err (Work ReadFault)) other kept x y = absurd x
same_reason kind basis limits h before rest (Err (Work WriteFault)) other kept x y = absurd x
same_reason kind basis limits h before rest (Err (Work NoMemory)) other kept x y = absurd x
same_reason kind basis limits h before rest (Err (Work (TooLarge Bytes))) other kept x y = absurd x
same_reason kind basis limits h before rest (Err (Work (TooLarge Stanzas))) other kept x y = absurd x
same_reason kind basis limits h before rest (Err (Work (TooLarge Variables))) other kept x y = absurd x
same_reason kind basis limits h before rest (Err (Work (TooLarge Clauses))) other kept x y = absurd x
same_reason kind basis limits h before rest (Err (Work (TooLarge Literals))) other kept x y = absurd x
same_reason kind basis limits h before rest (Err (Work (TooLarge RecordLine))) other kept x y = absurd x
same_reason kind basis limits h before rest one other kept x y = absurd y

-- ---- a reason before another place

step_form : (few later many : List CertRecord) (step : CertRecord) → many ≡ few ++ step ∷ later
    → All (λ s. HasForm (record_text s) s) many
    → HasForm (record_text step) step
step_form few later many step is all = all-at (λ s. HasForm (record_text s) s) many few step later is all

-- the next line of the longer reading is the derived one
same_step : RecordsAreClear → (few later : List CertRecord) (step : CertRecord) (rest tail line more : List ℕ)
    (literals : List Word) (hints : List ℕ)
    → rest ≡ lines_text (step ∷ later) ++ tail → HasForm (record_text step) step
    → BeginsWith rest line more → HasForm line (Derived literals hints) → step ≡ Derived literals hints
same_step clear few later step rest tail line more literals hints is form begins derives =
    let lines = one_line (record_text step) line (lines_text later ++ tail) more
    (clear.record_line step form) begins.one_line
    (sym (first_line_of step later tail) ∙ sym is ∙ begins.ended) in
    clear.one_record (record_text step) step (Derived literals hints) form
    (subst (λ bytes. HasForm bytes (Derived literals hints)) (sym lines.0) derives)

-- the lines of the longer reading have that clause too
derived_more : (few later many : List CertRecord) (step : CertRecord) (literals : List Word) (hints : List ℕ)
    → many ≡ few ++ step ∷ later
    → step ≡ Derived literals hints
    → derived many ≡ derived few ++ clause_of literals ∷ derived later
derived_more few later many step literals hints is derives =
    ap derived (is ∙ ap (λ (s : CertRecord). few ++ s ∷ later) derives)
    ∙ flat_map-append derived_in few (Derived literals hints ∷ later)

passed_lines : (limits : Limits) (few later many : List (List Literal)) (clause : List Literal)
    → many ≡ few ++ clause ∷ later → length many ≤ limits.lines
    → length few ≡ limits.lines → ⊥
passed_lines limits few later many clause is within full = let n = ap length is in omega
    (arith, n, within, full, length-append few (clause ∷ later))

passed_literals : (limits : Limits) (few later many : List (List Literal)) (clause : List Literal)
    → many ≡ few ++ clause ∷ later
    → literal_count many ≤ limits.line_literals
    → limits.line_literals < literal_count few + length clause → ⊥
passed_literals limits few later many clause is within full =
    let n = ap literal_count is in
    let sum = sum_by-append (λ (c : List Literal). length c) few (clause ∷ later) in
    let one = sum_by-cons (λ (c : List Literal). length c) clause later in
    omega (arith, n, within, full, sum, one)

-- the bytes of a line and its line feed are among those that are kept
pub passed_bytes : (limits : Limits) (n : ℕ) (line more rest : List ℕ) → rest ≡ line ++ line_feed ∷ more
    → n + length line + 1 ≤ limits.certificate
    → ¬ PassesWhole limits n rest
passed_bytes limits n line more rest is kept passes =
    within (limits.certificate - n) line more (omega (arith, kept))
    (subst (λ bytes. IsOneLine (take (limits.certificate - n) bytes)) is passes.in_line)

longer_bytes : (first : List ℕ) (few later many : List CertRecord) (step : CertRecord) → many ≡ few ++ step ∷ later
    → length (file_text first few) + length (record_text step) + 1 ≤ length (file_text first many)
longer_bytes first few later many step is =
    let same = ap (λ (ls : List CertRecord). length (file_text first ls)) is in
    let split = ap length (flat_map-append (λ (s : CertRecord). record_text s ++ line_feed ∷ []) few (step ∷ later)) in
    omega (
      arith,
      same,
      split,
      length-append first (line_feed ∷ lines_text few),
      length-append first (line_feed ∷ lines_text (few ++ step ∷ later)),
      length-append (lines_text few) (lines_text (step ∷ later)),
      length-append (record_text step ++ line_feed ∷ []) (lines_text later),
      length-append (record_text step) (line_feed ∷ []),
    )

pub not_before : (kind : FileKind) → IsClear kind
    → (basis : kind.Basis) (limits : Limits) (text : List ℕ) (h other : kind.Heading)
    (few many : List CertRecord) (rest more : List ℕ) (one : Answer kind) → h ≡ other
    → IsReached kind basis limits text other many more → IsShorter few rest many more
    → Reason kind basis limits h few rest one → ⊥
not_before kind clear basis limits text h other few many rest more (Ok (g, made)) same point shorter x =
    nothing_more few many more (subst (λ bytes. IsShorter few bytes many more) x.nothing shorter)
not_before kind clear basis limits text h other few many rest more (Err (Bad fault)) same point shorter x =
    not_faulty (rules_of kind basis) limits text h other few many rest more fault.cause same point.faultless shorter
    (has_first (HasFaultBehind (kind.HasFault basis h) limits few rest) in_order fault.cause x.first)
not_before kind clear basis limits text h other few many rest more (Err (Work (TooLarge Lines))) same point shorter x =
    let form = step_form few shorter.1 many shorter.0 shorter.2 point.faultless.reads.records in
    let is = same_step clear.records few shorter.1 shorter.0 rest more x.line x.more x.literals x.hints shorter.3 form
    x.begins x.form in
    passed_lines limits (derived few) (derived shorter.1) (derived many) (clause_of x.literals)
    (derived_more few shorter.1 many shorter.0 x.literals x.hints shorter.2 is) point.numbers.derived_lines x.passes
not_before kind clear basis limits text h other few many rest more
    (Err (Work (TooLarge LineLiterals))) same point shorter x =
    let form = step_form few shorter.1 many shorter.0 shorter.2 point.faultless.reads.records in
    let is = same_step clear.records few shorter.1 shorter.0 rest more x.line x.more x.literals x.hints shorter.3 form
    x.begins x.form in
    passed_literals limits (derived few) (derived shorter.1) (derived many) (clause_of x.literals)
    (derived_more few shorter.1 many shorter.0 x.literals x.hints shorter.2 is) point.numbers.line_literals x.passes.1
not_before kind clear basis limits text h other few many rest more
    (Err (Work (TooLarge Certificate))) same point shorter x =
    let long = longer_bytes (kind.heading_text other) few shorter.1 many shorter.0 shorter.2 in
    let n : length (file_text (kind.heading_text h) few) ≡ length (file_text (kind.heading_text other) few) = ap
    (λ (k : kind.Heading). length (file_text (kind.heading_text k) few)) same in
    passed_bytes limits (length (file_text (kind.heading_text h) few)) (record_text shorter.0)
    (lines_text shorter.1 ++ more) rest
    (shorter.3 ∙ first_line_of shorter.0 shorter.1 more) (omega (arith, long, n, point.numbers.bytes)) x
not_before kind clear basis limits text h other few many rest more one same point shorter x = x

-- ---- two places

pub one_later : (kind : FileKind) → IsClear kind
    → (basis : kind.Basis) (limits : Limits) (text : List ℕ) (h other : kind.Heading)
    (ones twos : List CertRecord) (rest more : List ℕ) (one two : Answer kind)
    → IsReached kind basis limits text h ones rest → IsReached kind basis limits text other twos more
    → Reason kind basis limits h ones rest one
    → Reason kind basis limits other twos more two → one ≡ two
one_later kind clear basis limits text h other ones twos rest more one two x y a b =
    let read = readings (rules_of kind basis)
    (clear_rules kind clear basis) text h other ones twos rest more x.faultless.reads y.faultless.reads in
    ⊎_elim
    (λ same. same_reason kind basis limits other twos more one two y.numbers.bytes
    (subst (λ bytes. Reason kind basis limits other twos bytes one) same.1
    (subst (λ steps. Reason kind basis limits other steps rest one) same.0
    (subst (λ k. Reason kind basis limits k ones rest one) read.0 a))) b)
    (λ apart. ⊎_elim
    (λ shorter. absurd (not_before kind clear basis limits text h other ones twos rest more one read.0 y shorter a))
    (λ shorter. absurd (not_before kind clear basis limits text other h twos ones more rest two
    (sym read.0) x shorter b))
    apart)
    read.1

-- The first line has this fault first.
pub record IsFirstFaulty (kind : FileKind) (limits : Limits) (text : List ℕ) (fault : CertFault) : Type 0 where
  pub basis : kind.Basis
  pub judged : IsJudgedBy kind limits text basis
  pub line : fault.line ≡ 1
  pub bytes : ¬ PassesWhole limits 0 text
  pub first : IsFirstOf in_order (HasHeadingFault (rules_of kind basis) limits text) fault.cause
  pub within : fault.cause ≡ causes.BadHeader → HasInputsWithin kind basis limits text

-- why a check stops in the first line with an answer
abbrev pub FirstReason : (kind : FileKind) → Limits → List ℕ → Answer kind → Type 0
FirstReason kind limits text (Err (Bad fault)) = IsFirstFaulty kind limits text fault
FirstReason kind limits text (Err (Work (TooLarge Variables))) = HasLargeInputs kind limits text Variables
FirstReason kind limits text (Err (Work (TooLarge Clauses))) = HasLargeInputs kind limits text Clauses
FirstReason kind limits text (Err (Work (TooLarge Literals))) = HasLargeInputs kind limits text Literals
FirstReason kind limits text (Err (Work (TooLarge Certificate))) = PassesWhole limits 0 text
FirstReason kind limits text other = ⊥

-- what is known of the numbers that are passed, and of what is judged by
pub record AreKnown (kind : FileKind) (limits : Limits) : Type 0 where
  pub clear : IsClear kind
  pub same : BasesAreOne kind
  pub kept : (h : kind.Heading) (basis : kind.Basis) (what : What) → kind.IsBasisOf h basis → kind.IsWithin limits basis
      → ¬ kind.PassesFirst h limits what
  pub one : (h : kind.Heading) (what other : What) → kind.PassesFirst h limits what → kind.PassesFirst h limits other
      → other ≡ what

-- a first line with a fault, and a number that is passed
large_not_faulty : (kind : FileKind) (limits : Limits) (text : List ℕ) (what : What) (fault : CertFault)
    → AreKnown kind limits
    → HasLargeInputs kind limits text what → IsFirstFaulty kind limits text fault → ⊥
large_not_faulty kind limits text what fault known large faulty =
    by fault.cause (has_first (HasHeadingFault (rules_of kind faulty.basis) limits text) in_order fault.cause
    faulty.first) faulty.within
  where
    by : (cause : CertCause) → HasHeadingFault (rules_of kind faulty.basis) limits text cause
        → (cause ≡ causes.BadHeader → HasInputsWithin kind faulty.basis limits text) → ⊥
    by causes.LineTooLong has within = large.keeps.line has
    by causes.Truncated has within = begins_whole text large.line large.more large.begins has
    by causes.BadHeader has within =
        known.kept large.h faulty.basis what
        (faulty.judged large.h large.line large.more large.begins large.form large.keeps.line)
        (within refl large.h large.line large.more large.begins large.form) large.passes
    by cause has within = has

both_large : (kind : FileKind) (limits : Limits) (text : List ℕ) (what other : What) → AreKnown kind limits
    → HasLargeInputs kind limits text what
    → HasLargeInputs kind limits text other → other ≡ what
both_large kind limits text what other known first second =
    let same : second.h ≡ first.h =
    one_heading kind known.clear text first.h second.h first.line first.more second.line second.more first.begins
    first.form second.begins second.form in
    known.one first.h what other first.passes
    (subst (λ h. kind.PassesFirst h limits other) same second.passes)

large_not_later : (kind : FileKind) (basis : kind.Basis) (limits : Limits) (text : List ℕ) (what : What)
    (h : kind.Heading) (before : List CertRecord)
    (rest : List ℕ) → AreKnown kind limits → HasLargeInputs kind limits text what
    → IsReached kind basis limits text h before rest → ⊥
large_not_later kind basis limits text what h before rest known large behind =
    let begins = heading_begins kind known.clear text h before rest behind.faultless.reads in
    let same : large.h ≡ h = one_heading kind known.clear text h large.h (kind.heading_text h)
    (lines_text before ++ rest) large.line large.more begins
    behind.faultless.reads.header large.begins large.form in
    known.kept h basis what behind.is_basis behind.numbers.inputs
    (subst (λ g. kind.PassesFirst g limits what) same large.passes)

apart : (kind : FileKind) (limits : Limits) (text : List ℕ) (what other : What) → AreKnown kind limits
    → (what ≡ other → ⊥)
    → HasLargeInputs kind limits text what → HasLargeInputs kind limits text other → ⊥
apart kind limits text what other known never first second = never
    (sym (both_large kind limits text what other known first second))

pub one_first_stop : (kind : FileKind) (limits : Limits) (text : List ℕ) → AreKnown kind limits
    → (one other : Answer kind)
    → FirstReason kind limits text one → FirstReason kind limits text other → one ≡ other
one_first_stop kind limits text known (Err (Bad fault)) (Err (Bad other)) x y =
    ap (λ f. Err (Bad f)) (one_first_line kind x.basis y.basis limits text fault other
    (record { line = x.line; cause = x.first }) (record { line = y.line; cause = y.first }))
one_first_stop kind limits text known (Err (Bad fault)) (Err (Work (TooLarge Variables))) x y = absurd
    (large_not_faulty kind limits text Variables fault known y x)
one_first_stop kind limits text known (Err (Bad fault)) (Err (Work (TooLarge Clauses))) x y = absurd
    (large_not_faulty kind limits text Clauses fault known y x)
one_first_stop kind limits text known (Err (Bad fault)) (Err (Work (TooLarge Literals))) x y = absurd
    (large_not_faulty kind limits text Literals fault known y x)
one_first_stop kind limits text known (Err (Bad fault)) (Err (Work (TooLarge Certificate))) x y = absurd (x.bytes y)
one_first_stop kind limits text known (Err (Work (TooLarge Variables))) (Err (Bad fault)) x y = absurd
    (large_not_faulty kind limits text Variables fault known x y)
one_first_stop kind limits text known (Err (Work (TooLarge Clauses))) (Err (Bad fault)) x y = absurd
    (large_not_faulty kind limits text Clauses fault known x y)
one_first_stop kind limits text known (Err (Work (TooLarge Literals))) (Err (Bad fault)) x y = absurd
    (large_not_faulty kind limits text Literals fault known x y)
one_first_stop kind limits text known (Err (Work (TooLarge Certificate))) (Err (Bad fault)) x y = absurd (y.bytes x)
one_first_stop kind limits text known (Err (Work (TooLarge Variables))) (Err (Work (TooLarge Variables))) x y = refl
one_first_stop kind limits text known (Err (Work (TooLarge Clauses))) (Err (Work (TooLarge Clauses))) x y = refl
one_first_stop kind limits text known (Err (Work (TooLarge Literals))) (Err (Work (TooLarge Literals))) x y = refl
one_first_stop kind limits text known (Err (Work (TooLarge Certificate))) (Err (Work (TooLarge Certificate))) x y = refl
one_first_stop kind limits text known (Err (Work (TooLarge Variables))) (Err (Work (TooLarge Clauses))) x y = absurd
    (apart kind limits text Variables Clauses known (λ e. cc) x y)
one_first_stop kind limits text known (Err (Work (TooLarge Variables))) (Err (Work (TooLarge Literals))) x y =
    absurd (apart kind limits text Variables Literals known (λ e. cc) x y)
one_first_stop kind limits text known (Err (Work (TooLarge Variables))) (Err (Work (TooLarge Certificate))) x y = absurd
    (x.keeps.whole y)
one_first_stop kind limits text known (Err (Work (TooLarge Clauses))) (Err (Work (TooLarge Variables))) x y = absurd
    (apart kind limits text Clauses Variables known (λ e. cc) x y)
one_first_stop kind limits text known (Err (Work (TooLarge Clauses))) (Err (Work (TooLarge Literals))) x y = absurd
    (apart kind limits text Clauses Literals known (λ e. cc) x y)
one_first_stop kind limits text known (Err (Work (TooLarge Clauses))) (Err (Work (TooLarge Certificate))) x y = absurd
    (x.keeps.whole y)
one_first_stop kind limits text known (Err (Work (TooLarge Literals))) (Err (Work (TooLarge Variables))) x y =
    absurd (apart kind limits text Literals Variables known (λ e. cc) x y)
one_first_stop kind limits text known (Err (Work (TooLarge Literals))) (Err (Work (TooLarge Clauses))) x y = absurd
    (apart kind limits text Literals Clauses known (λ e. cc) x y)
one_first_stop kind limits text known (Err (Work (TooLarge Literals))) (Err (Work (TooLarge Certificate))) x y = absurd
    (x.keeps.whole y)
one_first_stop kind limits text known (Err (Work (TooLarge Certificate))) (Err (Work (TooLarge Variables))) x y = absurd
    (y.keeps.whole x)
one_first_stop kind limits text known (Err (Work (TooLarge Certificate))) (Err (Work (TooLarge Clauses))) x y = absurd
    (y.keeps.whole x)
one_first_stop kind limits text known (Err (Work (TooLarge Certificate))) (Err (Work (TooLarge Literals))) x y = absurd
    (y.keeps.whole x)
one_first_stop kind limits text known (Ok (h, made)) other x y = absurd x
one_first_stop kind limits text known (Err (Work ReadFault)) other x y = absurd x
one_first_stop kind limits text known (Err (Work WriteFault)) other x y = absurd x
one_first_stop kind limits text known (Err (Work NoMemory)) other x y = absurd x
one_first_stop kind limits text known (Err (Work (TooLarge Bytes))) other x y = absurd x
one_first_stop kind limits text known (Err (Work (TooLarge Stanzas))) other x y = absurd x
one_first_stop kind limits text known (Err (Work (TooLarge Lines))) other x y = absurd x
one_first_stop kind limits text known (Err (Work (TooLarge LineLiterals))) other x y = absurd x
one_first_stop kind limits text known (Err (Work (TooLarge RecordLine))) other x y = absurd x
one_first_stop kind limits text known one other x y = absurd y

pub first_alone : (kind : FileKind) (basis : kind.Basis) (limits : Limits) (text : List ℕ) (h : kind.Heading)
    (before : List CertRecord) (rest : List ℕ)
    → AreKnown kind limits → (one : Answer kind) → FirstReason kind limits text one
    → IsReached kind basis limits text h before rest → ⊥
first_alone kind basis limits text h before rest known (Err (Bad fault)) x behind =
    let faultless = behind.faultless in
    let same : x.basis ≡ basis = same_judged kind known.same limits text basis x.basis
    (reads_heading kind known.clear basis limits text h before rest faultless)
    (is_judged kind known.clear basis limits text h before rest faultless behind.is_basis) x.judged in
    faultless.first fault.cause (subst (λ b. HasHeadingFault (rules_of kind b) limits text fault.cause) same
    (has_first (HasHeadingFault (rules_of kind x.basis) limits text) in_order fault.cause x.first))
first_alone kind basis limits text h before rest known (Err (Work (TooLarge Variables))) x behind =
    large_not_later kind basis limits text Variables h before rest known x behind
first_alone kind basis limits text h before rest known (Err (Work (TooLarge Clauses))) x behind =
    large_not_later kind basis limits text Clauses h before rest known x behind
first_alone kind basis limits text h before rest known (Err (Work (TooLarge Literals))) x behind =
    large_not_later kind basis limits text Literals h before rest known x behind
first_alone kind basis limits text h before rest known (Err (Work (TooLarge Certificate))) x behind =
    passed_bytes limits 0 (kind.heading_text h) (lines_text before ++ rest) text
    (behind.faultless.reads.text_is ∙ append_assoc (kind.heading_text h) (line_feed ∷ lines_text before) rest)
    (omega (arith, behind.numbers.bytes, length-append (kind.heading_text h) (line_feed ∷ lines_text before))) x
first_alone kind basis limits text h before rest known one x behind = x

-- ---- one answer

-- when each answer is given
abbrev pub IsAnswer : (kind : FileKind) → Limits → List ℕ → Answer kind → Type 0
IsAnswer kind limits text (Ok (h, steps)) = IsCompleted kind limits text h (λ basis all. steps ≡ all)
IsAnswer kind limits text (Err error) = StopsWith kind limits text error

-- an answer that the text decides: neither a fault of reading nor want of memory
abbrev pub IsOfText : {X : Type 0} → Result X ReadCertError → Type 0
IsOfText (Err (Work ReadFault)) = ⊥
IsOfText (Err (Work NoMemory)) = ⊥
IsOfText result = Unit {0}

-- Where a text is read up to behind some records, and there stops with an answer.
record StopsBehind (kind : FileKind) (limits : Limits) (text : List ℕ) (one : Answer kind) : Type 0 where
  basis : kind.Basis
  h : kind.Heading
  before : List CertRecord
  rest : List ℕ
  reached : IsReached kind basis limits text h before rest
  reason : Reason kind basis limits h before rest one

-- where an answer stops
abbrev Stop : (kind : FileKind) → Limits → List ℕ → Answer kind → Type 0
Stop kind limits text one = FirstReason kind limits text one ⊎ StopsBehind kind limits text one

stop_of : (kind : FileKind) (limits : Limits) (text : List ℕ) (one : Answer kind) → IsAnswer kind limits text one
    → IsOfText one → Stop kind limits text one
stop_of kind limits text (Ok (h, made)) x of = inr (record {
  basis = x.basis;
  h = h;
  before = x.steps;
  rest = [];
  reached = record { is_basis = x.is_basis; faultless = x.accepted.faultless; numbers = x.numbers };
  reason = record { header = refl; claims = x.claims; nothing = refl; ends = x.accepted.ends };
})
stop_of kind limits text (Err (Bad fault)) x of = ⊎_elim
    (λ first. inl (record {
      basis = first.1.basis;
      judged = first.1.judged;
      line = first.0;
      bytes = first.1.bytes;
      first = first.1.first;
      within = first.1.within;
    }))
    (λ later. inr (record {
      basis = later.basis;
      h = later.h;
      before = later.before;
      rest = later.rest;
      reached = later.reached;
      reason = record { bytes = later.bytes; line = later.line; first = later.first };
    }))
    x
stop_of kind limits text (Err (Work (TooLarge Variables))) x of = inl x
stop_of kind limits text (Err (Work (TooLarge Clauses))) x of = inl x
stop_of kind limits text (Err (Work (TooLarge Literals))) x of = inl x
stop_of kind limits text (Err (Work (TooLarge Lines))) x of = inr (record {
  basis = x.basis;
  h = x.h;
  before = x.before;
  rest = x.rest;
  reached = x.reached;
  reason = record {
    keeps = x.keeps;
    literals = x.literals;
    hints = x.hints;
    line = x.line;
    more = x.more;
    begins = x.begins;
    form = x.form;
    none = x.none;
    passes = x.passes;
  };
})
stop_of kind limits text (Err (Work (TooLarge LineLiterals))) x of = inr (record {
  basis = x.basis;
  h = x.h;
  before = x.before;
  rest = x.rest;
  reached = x.reached;
  reason = record {
    keeps = x.keeps;
    literals = x.literals;
    hints = x.hints;
    line = x.line;
    more = x.more;
    begins = x.begins;
    form = x.form;
    none = x.none;
    passes = x.passes;
  };
})
stop_of kind limits text (Err (Work (TooLarge Certificate))) x of = ⊎_elim inl
    (λ later. inr (record {
      basis = later.basis;
      h = later.h;
      before = later.before;
      rest = later.rest;
      reached = later.reached;
      reason = later.passes;
    }))
    x
stop_of kind limits text (Err (Work ReadFault)) x of = absurd of
stop_of kind limits text (Err (Work NoMemory)) x of = absurd of
stop_of kind limits text (Err (Work (TooLarge what))) x of = absurd x
stop_of kind limits text (Err error) x of = absurd x

both_behind : (kind : FileKind) (limits : Limits) (text : List ℕ) (one other : Answer kind) → AreKnown kind limits
    → StopsBehind kind limits text one
    → StopsBehind kind limits text other → one ≡ other
both_behind kind limits text one other known a b =
    let judged = is_judged kind known.clear a.basis limits text a.h a.before a.rest a.reached.faultless
    a.reached.is_basis in
    let also = is_judged kind known.clear b.basis limits text b.h b.before b.rest b.reached.faultless b.reached.is_basis
    in
    let header = reads_heading kind known.clear a.basis limits text a.h a.before a.rest a.reached.faultless in
    let same : b.basis ≡ a.basis = same_judged kind known.same limits text a.basis b.basis header judged also in
    one_later kind known.clear a.basis limits text a.h b.h a.before b.before a.rest b.rest one other a.reached
    (subst (λ x. IsReached kind x limits text b.h b.before b.rest) same b.reached) a.reason
    (subst (λ x. Reason kind x limits b.h b.before b.rest other) same b.reason)

pub one_answer : (kind : FileKind) (limits : Limits) (text : List ℕ) (one other : Answer kind) → AreKnown kind limits
    → IsAnswer kind limits text one → IsAnswer kind limits text other → IsOfText one → IsOfText other → other ≡ one
one_answer kind limits text one other known x y of of_other = sym (⊎_elim
    (λ a. ⊎_elim
    (λ b. one_first_stop kind limits text known one other a b)
    (λ b. absurd (first_alone kind b.basis limits text b.h b.before b.rest known one a b.reached))
    (stop_of kind limits text other y of_other))
    (λ a. ⊎_elim
    (λ b. absurd (first_alone kind a.basis limits text a.h a.before a.rest known other b a.reached))
    (λ b. both_behind kind limits text one other known a b)
    (stop_of kind limits text other y of_other))
    (stop_of kind limits text one x of))
