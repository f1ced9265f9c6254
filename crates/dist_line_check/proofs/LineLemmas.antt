-- The next line, by what is kept of those before it.
use Rattle.std.proofs.Common.{◌≡◌, ◌≢◌, ℕ, ◌+◌, ◌≤◌, true, List, [], ◌∷◌, ◌++◌, Option, Some, None, Result, Ok, Err, IfOk, OnOk, length, refl, sym, ap}
use Rattle.std.proofs.Common.{subst, ◌∙◌, append_assoc, arith}
use Rattle.std.specs.Option.{ForSome}
use Rattle.dist_outside.specs.declared.limits.Limits.{Limits}
use Rattle.dist_outside.specs.declared.trouble.What.TheVariants.{Lines, LineLiterals}
use Rattle.dist_outside.specs.declared.trouble.WorkError.{WorkError}
use Rattle.dist_outside.specs.declared.trouble.WorkError.TheVariants.{TooLarge, NoMemory}
use Rattle.dist_clause.specs.ClauseList.{literal_count}
use Rattle.dist_clause.specs.Formula.{Literal}
use Rattle.dist_derive.specs.ClauseLog.{IsWithinLineLimits, lines_of}
use Rattle.dist_cert.specs.declared.faults.CertCause.{CertCause}
use Rattle.dist_cert.specs.declared.faults.ReadCertError.TheVariants.{Bad, Work}
use Rattle.dist_cert.specs.declared.records.CertRecord.{CertRecord}
use Rattle.dist_cert.specs.declared.records.CertRecord.TheVariants as lines
use Rattle.dist_cert.specs.ByRecordsLaws.{map_first}
use Rattle.dist_cert.specs.FileLines.{in_order}
use Rattle.dist_cert.specs.GroupLaws.{IsOpening, none-open, opened}
use Rattle.dist_cert.specs.Form.{Word}
use Rattle.dist_cert.specs.Groups.{clause_of, derived, derived_in}
use Rattle.dist_cert.specs.LineRules.{HasRecordFault}
use Rattle.dist_cert.specs.Subject.{Matter}
use Rattle.dist_judge.specs.Judging.{FillsLines, FillsLiterals}
use Rattle.dist_judge.specs.LineLaws.{IsFaultless}
use Rattle.dist_judge.specs.ReadingLaws as reading
use Rattle.dist_line_check.specs.Checker.{CheckerView, QuestionView, StopsAt, Tells, TellsRefuted, TellsUndecided, assumed, behind}
use Rattle.dist_line_check.specs.Kinds.{FirstFault, IsDue, IsKept, IsLineKind, IsNext, IsNoted, IsReached, IsSomewhere, LineKind, LineStops, NotesClaim}
use Rattle.dist_line_check.specs.Kinds.{NotesInstalled, NotesLine, NotesRefuted, NotesUndecided, TakesLine, TellsLine, TellsOwn, finds_nothing, is_common}
use Rattle.dist_line_check.specs.LinesAt.{AreFuturesBy, IsLogOf, IsQuestionOf}
use Rattle.dist_line_check.specs.LinesAtLaws.{derived-push, derived-same, lines-kept, question-stays}
use Rattle.dist_line_check.specs.VerdictLaws.{IsVerdict, question-verdict, derived-verdict, refuted-verdict, installation-verdict, undecided-verdict}

-- ---- what is kept behind a line

-- the clauses and the open question are those of these lines
abbrev pub AreOf : Matter → List CertRecord → CheckerView → Type 0
AreOf matter before c = IsLogOf matter before c.log × IsQuestionOf matter.inputs before c.question

module _ (matter : Matter) (before : List CertRecord) (c : CheckerView) (log : IsLogOf matter before c.log) where
  -- no clause more
  same-log : (step : CertRecord) → derived_in step ≡ [] → IsLogOf matter (before ++ step ∷ []) c.log
  same-log step none =
      record { clauses = log.clauses ∙ derived-same matter.inputs before step none; inputs_are = log.inputs_are; variables = log.variables }

  closes : (step : CertRecord) → derived_in step ≡ [] → IsQuestionOf matter.inputs (before ++ step ∷ []) None
      → AreOf matter (before ++ step ∷ []) (record c { question = None })
  closes step none closed = (same-log step none, closed)

  pub kept-behind : IsQuestionOf matter.inputs before c.question → (step : CertRecord) → AreOf matter (before ++ step ∷ []) (behind c step)
  kept-behind question (lines.Question literals) =
      (same-log (lines.Question literals) refl, (before, [], opened before literals, ap (λ (cs : List (List Literal)). length cs) log.clauses))
  kept-behind question (lines.Derived literals hints) =
      let step = lines.Derived literals hints in
      let never : ¬ IsOpening step = λ o. let e = o.1 in cc in (
        record {
          clauses = ap (λ (cs : List (List Literal)). cs ++ clause_of literals ∷ []) log.clauses
              ∙ append_assoc matter.inputs (derived before) (clause_of literals ∷ [])
              ∙ ap (λ (cs : List (List Literal)). matter.inputs ++ cs) (sym (derived-push before step));
          inputs_are = log.inputs_are;
          variables = log.variables;
        },
        question-stays matter.inputs before step refl never c.question question,
      )
  kept-behind question (lines.Installation members) =
      let step = lines.Installation members in
      let never : ¬ IsOpening step = λ o. let e = o.1 in cc in
      (same-log step refl, question-stays matter.inputs before step refl never c.question question)
  kept-behind question (lines.Refuted hints) =
      closes (lines.Refuted hints) refl (none-open before (lines.Refuted hints) refl (λ o. let e = o.1 in cc))
  kept-behind question lines.Undecided = closes lines.Undecided refl (none-open before lines.Undecided refl (λ o. let e = o.1 in cc))
  kept-behind question (lines.NotInstallable p) =
      closes (lines.NotInstallable p) refl (none-open before (lines.NotInstallable p) refl (λ o. let e = o.1 in cc))
  kept-behind question (lines.Unknown p) = closes (lines.Unknown p) refl (none-open before (lines.Unknown p) refl (λ o. let e = o.1 in cc))
  kept-behind question (lines.Strong p named on undecided) =
      closes (lines.Strong p named on undecided) refl (none-open before (lines.Strong p named on undecided) refl (λ o. let e = o.1 in cc))
  kept-behind question (lines.Outdated p) = closes (lines.Outdated p) refl (none-open before (lines.Outdated p) refl (λ o. let e = o.1 in cc))
  kept-behind question (lines.Alive p number) =
      closes (lines.Alive p number) refl (none-open before (lines.Alive p number) refl (λ o. let e = o.1 in cc))
  kept-behind question (lines.Challenged p named by undecided) =
      closes (lines.Challenged p named by undecided) refl (none-open before (lines.Challenged p named by undecided) refl (λ o. let e = o.1 in cc))
  kept-behind question lines.End = closes lines.End refl (none-open before lines.End refl (λ o. let e = o.1 in cc))

-- what a line leaves
pub record LeavesLimits (c d : CheckerView) : Type 0 where
  pub limit : d.limit ≡ c.limit
  pub future : d.future ≡ c.future
  pub line_limit : d.log.line_limit ≡ c.log.line_limit
  pub line_literal_limit : d.log.line_literal_limit ≡ c.log.line_literal_limit

limits-behind : (c : CheckerView) (step : CertRecord) → LeavesLimits c (behind c step)
limits-behind c (lines.Question literals) = record { limit = refl; future = refl; line_limit = refl; line_literal_limit = refl }
limits-behind c (lines.Derived literals hints) = record { limit = refl; future = refl; line_limit = refl; line_literal_limit = refl }
limits-behind c (lines.Installation members) = record { limit = refl; future = refl; line_limit = refl; line_literal_limit = refl }
limits-behind c step = record { limit = refl; future = refl; line_limit = refl; line_literal_limit = refl }

module _ {N : Type 0} (kind : LineKind N) (limits : Limits) (basis : kind.file.Basis) (h : kind.file.Heading) (before : List CertRecord)
    (c : CheckerView) (notes : N) (x : IsReached kind limits basis h before c notes) where
  -- what is kept behind a line that was taken
  pub reached-behind : (step : CertRecord) (d : CheckerView) (more : N) → d ≡ behind c step → IsWithinLineLimits d.log
      → kind.Noted basis h (before ++ step ∷ []) more → IsReached kind limits basis h (before ++ step ∷ []) d more
  reached-behind step d more is within noted =
      let limited = limits-behind c step in
      let both = kept-behind (kind.matter basis) before c x.kept.log_of x.kept.question_of step in
      subst (λ (e : CheckerView). IsWithinLineLimits e.log → IsReached kind limits basis h (before ++ step ∷ []) e more) (sym is)
      (λ inside. record {
        kept = record {
          limit_is = limited.limit ∙ x.kept.limit_is;
          log_of = both.0;
          question_of = both.1;
          future_is = subst (λ f. AreFuturesBy (kind.matter basis) f) (sym limited.future) x.kept.future_is;
          judges = x.kept.judges;
          today = x.kept.today;
        };
        line_limit = limited.line_limit ∙ x.line_limit;
        line_literal_limit = limited.line_literal_limit ∙ x.line_literal_limit;
        within = inside;
        noted = noted;
      }) within

  -- ---- why a line is not taken

  few : (length (derived before) ≤ limits.lines) × (literal_count (derived before) ≤ limits.line_literals) × (lines_of c.log ≡ derived before)
  few = lines-kept (kind.matter basis).inputs before c.log limits.lines limits.line_literals x.kept.log_of.clauses x.kept.log_of.inputs_are x.line_limit
      x.line_literal_limit x.within

  derives : (step : CertRecord) → StopsAt c step (TooLarge Lines) → reading.DerivesPassing before (FillsLines limits) step
  derives (lines.Derived literals hints) stops =
      let k = few in omega (arith, stops, x.line_limit, ap (λ (cs : List (List Literal)). length cs) k.2)
  derives step stops = absurd (let e = stops in cc)

  derives-literals : (step : CertRecord) → StopsAt c step (TooLarge LineLiterals) → reading.DerivesPassing before (FillsLiterals limits) step
  derives-literals (lines.Derived literals hints) stops =
      let k = few in (
        omega (arith, stops.0, x.line_limit, ap (λ (cs : List (List Literal)). length cs) k.2),
        omega (arith, stops.1, x.line_literal_limit, ap literal_count k.2),
      )
  derives-literals step stops = absurd (let e = stops in cc)

  pub stops-with : (step : CertRecord) (line : ℕ) → IsFaultless kind.file basis h before step → (error : WorkError) → StopsAt c step error
      → reading.LineStops kind.file limits basis h before step line (Work error)
  stops-with step line faultless NoMemory stops = tt
  stops-with step line faultless (TooLarge Lines) stops = (faultless, derives step stops)
  stops-with step line faultless (TooLarge LineLiterals) stops = (faultless, derives-literals step stops)
  stops-with step line faultless error stops = no-other step error stops (λ e. cc) (λ e. cc) (λ e. cc)
    where
      -- no other number is passed
      no-other : (s : CertRecord) (e : WorkError) → StopsAt c s e → e ≢ NoMemory → e ≢ TooLarge Lines → e ≢ TooLarge LineLiterals → ⊥
      no-other (lines.Derived literals hints) (TooLarge Lines) is memory_not lines_not literals_not = lines_not refl
      no-other (lines.Derived literals hints) (TooLarge LineLiterals) is memory_not lines_not literals_not = literals_not refl
      no-other (lines.Derived literals hints) NoMemory is memory_not lines_not literals_not = memory_not refl
      no-other (lines.Derived literals hints) e is memory_not lines_not literals_not = is
      no-other s e is memory_not lines_not literals_not = memory_not is

-- ---- the first fault of a common line

module _ {N : Type 0} (kind : LineKind N) (laws : IsLineKind kind) (basis : kind.file.Basis) (h : kind.file.Heading) (before : List CertRecord) where
  lift : (step : CertRecord) → is_common step ≡ true → (found : Option CertCause)
      → IsVerdict (kind.matter basis) (kind.header h) before step found → FirstFault (kind.file.HasFault basis h before step) found
  lift step common None none = λ cause fault. none cause ((laws.common basis h before step cause common).0 fault)
  lift step common (Some cause) first =
      map_first (HasRecordFault (kind.matter basis) (kind.header h) before step) (kind.file.HasFault basis h before step)
      (λ c fault. (laws.common basis h before step c common).1 fault) (λ c fault. (laws.common basis h before step c common).0 fault) in_order cause first

  pub common-fault : (c : CheckerView) → IsKept (kind.matter basis) (kind.header h) before c → (step : CertRecord) → is_common step ≡ true
      → (found : Option CertCause) → Tells c step found → FirstFault (kind.file.HasFault basis h before step) found
  common-fault c x (lines.Question literals) common found told = lift (lines.Question literals) refl found
      (question-verdict (kind.matter basis) (kind.header h) before c.log x.log_of literals found told)
  common-fault c x (lines.Derived literals hints) common found told = lift (lines.Derived literals hints) refl found
      (derived-verdict (kind.matter basis) (kind.header h) before c.log x.log_of literals hints found told)
  common-fault c x (lines.Refuted hints) common found told = lift (lines.Refuted hints) refl found
      (refuted-verdict (kind.matter basis) (kind.header h) before c.log x.log_of c.question x.question_of hints found told)
  common-fault c x (lines.Installation members) common found told = lift (lines.Installation members) refl found
      (installation-verdict (kind.matter basis) (kind.header h) before c.log x.log_of x.judges c.future x.future_is x.today members found told)
  common-fault c x lines.Undecided common found told = lift lines.Undecided refl found
      (undecided-verdict (kind.matter basis) (kind.header h) before c.log x.log_of c.question x.question_of found
      (subst (λ n. TellsUndecided c.log n c.question found) x.limit_is told))
  common-fault c x step common found told = absurd (let e = common in cc)

-- what is told of a line
pub told-common : {N E : Type 0} (kind : LineKind N) → IsLineKind kind → (c : CheckerView) (notes : N) (step : CertRecord) → is_common step ≡ true
    → (result : Result (Option CertCause) E) → IfOk result (Tells c step) → IfOk result (TellsLine kind c notes step)
told-common kind laws c notes step common (Ok found) told = λ limits basis h before x.
    common-fault kind laws basis h before c x.reached.kept step common found told
told-common kind laws c notes step common (Err error) told = tt

pub told-own : {N E : Type 0} (kind : LineKind N) (c : CheckerView) (notes : N) (step : CertRecord) (result : Result (Option CertCause) E)
    → IfOk result (TellsOwn kind notes step) → IfOk result (TellsLine kind c notes step)
told-own kind c notes step (Ok found) told = λ limits basis h before x. told basis h before x.faultless x.forms x.reached.noted
told-own kind c notes step (Err error) told = tt

-- ---- a line that is noted

pub noted-nothing : {N : Type 0} (kind : LineKind N) → IsLineKind kind → (c : CheckerView) (step : CertRecord) (notes : N) → finds_nothing step ≡ true
    → NotesLine kind c step notes notes
noted-nothing kind laws c step notes nothing basis h before question faultless noted = laws.stays basis h before step notes nothing noted

pub noted-refuted : {N : Type 0} (kind : LineKind N) (c : CheckerView) (hints : List ℕ) (old new : N) → TellsRefuted c.log c.question hints None
    → ForSome c.question (λ q. NotesRefuted kind q.assumptions old new) → NotesLine kind c (lines.Refuted hints) old new
noted-refuted kind c hints old new told notes basis h before question faultless noted = by c.question told notes question
  where
    by : (asked : Option QuestionView) → TellsRefuted c.log asked hints None → ForSome asked (λ q. NotesRefuted kind q.assumptions old new)
        → IsQuestionOf (kind.matter basis).inputs before asked → kind.Noted basis h (before ++ lines.Refuted hints ∷ []) new
    by None none all q = absurd (let e = none in cc)
    by (Some asked) some all q = all asked refl basis h before q.0 q.1 hints q.2 noted

pub noted-undecided : {N : Type 0} (kind : LineKind N) (c : CheckerView) (old new : N) → TellsUndecided c.log c.limit c.question None
    → ForSome c.question (λ q. NotesUndecided kind q.assumptions old new) → NotesLine kind c lines.Undecided old new
noted-undecided kind c old new told notes basis h before question faultless noted = by c.question told notes question
  where
    by : (asked : Option QuestionView) → TellsUndecided c.log c.limit asked None → ForSome asked (λ q. NotesUndecided kind q.assumptions old new)
        → IsQuestionOf (kind.matter basis).inputs before asked → kind.Noted basis h (before ++ lines.Undecided ∷ []) new
    by None none all q = absurd (let e = none in cc)
    by (Some asked) some all q = all asked refl basis h before q.0 q.1 q.2 noted

pub noted-installed : {N : Type 0} (kind : LineKind N) (c : CheckerView) (members : List ℕ) (old new : N) → NotesInstalled kind members old new
    → NotesLine kind c (lines.Installation members) old new
noted-installed kind c members old new notes basis h before question faultless noted = notes basis h before noted

pub noted-claim : {N : Type 0} (kind : LineKind N) (c : CheckerView) (step : CertRecord) (old new : N) → NotesClaim kind step old new
    → NotesLine kind c step old new
noted-claim kind c step old new notes basis h before question faultless noted = notes basis h before faultless noted

pub is-noted : {N : Type 0} (kind : LineKind N) (c : CheckerView) (notes : N) (step : CertRecord) → IsNext kind c notes step → IsNoted kind notes
is-noted kind c notes step (limits, basis, h, before, x, fits, faultless) = (basis, h, before, x.reached.noted, fits)

pub is-due : {N : Type 0} (kind : LineKind N) (c : CheckerView) (notes : N) (step : CertRecord) → IsNext kind c notes step → IsDue kind notes step
is-due kind c notes step (limits, basis, h, before, x, fits, faultless) = (basis, h, before, x.reached.noted, faultless)

-- ---- a line that is taken, or not

pub is-next : {N : Type 0} (kind : LineKind N) (c : CheckerView) (notes : N) (step : CertRecord) → TellsLine kind c notes step None
    → IsSomewhere kind c notes → IsNext kind c notes step
is-next kind c notes step told (limits, basis, h, before, x, fits) = (limits, basis, h, before, x, fits, told limits basis h before x)

pub takes : {N : Type 0} (kind : LineKind N) (c d : CheckerView) (notes more : N) (step : CertRecord) → TellsLine kind c notes step None
    → d ≡ behind c step → IsWithinLineLimits d.log → NotesLine kind c step notes more → TakesLine kind c notes step d more
takes kind c d notes more step told is within noted limits basis h before x =
    let faultless = told limits basis h before x in (
      faultless,
      reached-behind kind limits basis h before c notes x.reached step d more is within
          (noted basis h before x.reached.kept.question_of faultless x.reached.noted),
    )

pub faulty : {N : Type 0} (kind : LineKind N) (c : CheckerView) (notes : N) (step : CertRecord) (line : ℕ) (cause : CertCause)
    → TellsLine kind c notes step (Some cause) → LineStops kind c notes step line (Bad (record { line = line; cause = cause }))
faulty kind c notes step line cause told limits basis h before x = (refl, told limits basis h before x)

pub stopped : {N : Type 0} (kind : LineKind N) (c : CheckerView) (notes : N) (step : CertRecord) (line : ℕ) (error : WorkError)
    → TellsLine kind c notes step None → StopsAt c step error → LineStops kind c notes step line (Work error)
stopped kind c notes step line error told stops limits basis h before x =
    stops-with kind limits basis h before c notes x.reached step line (told limits basis h before x) error stops

pub no-memory : {N : Type 0} (kind : LineKind N) (c : CheckerView) (notes : N) (step : CertRecord) (line : ℕ)
    → LineStops kind c notes step line (Work NoMemory)
no-memory kind c notes step line limits basis h before x = tt

-- ---- a question that is closed

-- what holds of the assumptions of the open question
for-assumed : (P : List Word → Type 0) (asked : Option QuestionView) (question : List Word) → assumed asked ≡ Some question → P question
    → ForSome asked (λ q. P q.assumptions)
for-assumed P None question is holds q there = absurd (let e = is in cc)
for-assumed P (Some asked) question is holds q there =
    let same : asked ≡ q = cc in
    let words : question ≡ asked.assumptions = cc in
    subst P (words ∙ ap (λ (v : QuestionView). v.assumptions) same) holds

-- none was open
pub none-assumed : (P : List Word → Type 0) (asked : Option QuestionView) → assumed asked ≡ None → ForSome asked (λ q. P q.assumptions)
none-assumed P None is q there = absurd (let e = there in cc)
none-assumed P (Some asked) is q there = absurd (let e = is in cc)

pub closed-refuted : {N E : Type 0} (kind : LineKind N) (asked : Option QuestionView) (question : List Word) (old new : N) (result : Result (Unit {0}) E)
    → assumed asked ≡ Some question → OnOk result (NotesRefuted kind question old new)
    → OnOk result (ForSome asked (λ q. NotesRefuted kind q.assumptions old new))
closed-refuted kind asked question old new (Ok u) is notes = for-assumed (λ words. NotesRefuted kind words old new) asked question is notes
closed-refuted kind asked question old new (Err error) is notes = tt

pub closed-undecided : {N E : Type 0} (kind : LineKind N) (asked : Option QuestionView) (question : List Word) (old new : N)
    (result : Result (Unit {0}) E) → assumed asked ≡ Some question → OnOk result (NotesUndecided kind question old new)
    → OnOk result (ForSome asked (λ q. NotesUndecided kind q.assumptions old new))
closed-undecided kind asked question old new (Ok u) is notes = for-assumed (λ words. NotesUndecided kind words old new) asked question is notes
closed-undecided kind asked question old new (Err error) is notes = tt
