-- What is told of a line that questions, derives or installs is its first fault, or that it has none.
use Rattle.std.proofs.Common.{◌≡◌, inl, inr, ℕ, ◌+◌, ◌-◌, ◌<◌, ◌≤◌, ◌||◌, Bool, true, false, List, [], ◌∷◌, ◌++◌}
use Rattle.std.proofs.Common.{Option}
use Rattle.std.proofs.Common.{Some, None, length, get_or, map, take, ◌↔◌, refl, sym, ap, subst, ◌∙◌, append_assoc}
use Rattle.std.proofs.Common.{arith}
use Rattle.std.proofs.Common.{length-append, nat_lt}
use Rattle.std.specs.List.{All, Any}
use Rattle.std.proofs.lemmas.Bool.{false≢true, cases_lt, ltb-true, ltb-false, or_cases, or_parts}
use Rattle.std.proofs.lemmas.Grind.{flat_map-append}
use Rattle.std.proofs.lemmas.List.{take_at, get_or_at}
use Rattle.std.proofs.lemmas.List.Elements.{All-nil, All-cons}
use Rattle.dist_base.specs.ListLaws.{any-head, any-later}
use Rattle.dist_clause.specs.ClauseList.{clause_at}
use Rattle.dist_clause.specs.Formula.{Literal, negation, IsModel}
use Rattle.dist_derive.specs.ClauseLog.{ClauseLog, inputs_of}
use Rattle.dist_derive.specs.Follows.{Follows}
use Rattle.dist_derive.specs.New.{AreNewFrom, IsNew, EachIsNew}
use Rattle.dist_cert.specs.declared.faults.CertCause.{CertCause}
use Rattle.dist_cert.specs.declared.faults.CertCause.TheVariants as causes
use Rattle.dist_cert.specs.declared.records.CertKind.{CertKind}
use Rattle.dist_cert.specs.declared.records.CertKind.TheVariants as kinds
use Rattle.dist_cert.specs.declared.records.CertRecord.{CertRecord}
use Rattle.dist_cert.specs.declared.records.CertRecord.TheVariants as lines
use Rattle.dist_cert.specs.declared.records.Header.{Header}
use Rattle.dist_cert.specs.Form.{Word}
use Rattle.dist_cert.specs.GroupLaws.{one-open}
use Rattle.dist_cert.specs.Groups.{clause_of, derived, derived_in, numbered, IsOpen}
use Rattle.dist_cert.specs.LineRules.{HasRecordFault, IsNoFuture}
use Rattle.dist_cert.specs.Rising.{is_among}
use Rattle.dist_cert.specs.Subject.{Matter}
use Rattle.dist_line_check.specs.FirstFaultLaws.{rank, may_have, IsFaultless, HasFirst, faultless_from, first_from}
use Rattle.dist_line_check.specs.Future.{StandsForFuture}
use Rattle.dist_line_check.specs.LinesAt.{AreFuturesBy, IsLogOf, IsQuestionOf, JudgesMembers}
use Rattle.dist_line_check.specs.Checker.{QuestionView, names_above, is_above, TellsQuestion, TellsDerived}
use Rattle.dist_line_check.specs.Checker.{TellsRefuted}
use Rattle.dist_line_check.specs.Checker.{TellsInstallation, TellsUndecided}
use Rattle.dist_line_check.specs.declared.future.FutureClauses.{FutureClauses}

-- ---- what is above the last

pub none-above : (last : ℕ) (numbers : List ℕ) → is_above last numbers ≡ false → All (λ number. number ≤ last) numbers
none-above last [] none = All-nil (λ number. number ≤ last)
none-above last (x ∷ numbers) none =
    let parts = or_parts (nat_lt last x) (is_above last numbers) none in
    All-cons (λ number. number ≤ last) x numbers (ltb-false last x parts.0) (none-above last numbers parts.1)

pub some-above : (last : ℕ) (numbers : List ℕ) → is_above last numbers ≡ true → Any (λ number. last < number) numbers
some-above last [] some = absurd (false≢true some)
some-above last (x ∷ numbers) some = elim (or_cases (nat_lt last x) (is_above last numbers) some) [
  | inl here ↦ any-head (λ number. last < number) x numbers (ltb-true last x here)
  | inr later ↦ any-later (λ number. last < number) x numbers (some-above last numbers later)
]

pub words-above : (last : ℕ) (words : List Word) → names_above last words ≡ is_above last (map (λ word. word.0) words)
words-above last [] = refl
words-above last (w ∷ words) = ap (λ (b : Bool). nat_lt last w.0 || b) (words-above last words)

-- the first fault of a record, or none
abbrev pub IsVerdict : Matter → Header → List CertRecord → CertRecord → Option CertCause → Type 0
IsVerdict matter h before step None = IsFaultless matter h before step
IsVerdict matter h before step (Some cause) = HasFirst matter h before step cause

any-above : (last : ℕ) (numbers : List ℕ) → All (λ n. n ≤ last) numbers → ¬ Any (λ n. last < n) numbers
any-above last numbers all any = let low = all any.0 any.1 any.2 in let e = any.3 in omega (arith, low, e, any.4)

none-out : (last : ℕ) (numbers : List ℕ) → is_above last numbers ≡ false → ¬ Any (λ n. last < n) numbers
none-out last numbers none = any-above last numbers (none-above last numbers none)

-- at the number of packages and of clauses that is kept
pub range-none : (last packages : ℕ) (words : List Word) → last ≡ packages → names_above last words ≡ false
    → ¬ Any (λ n. packages < n) (map (λ word. word.0) words)
range-none last packages words same none = subst (λ n. ¬ Any (λ m. n < m) (map (λ word. word.0) words)) same
    (none-out last (map (λ word. word.0) words) (sym (words-above last words) ∙ none))

range-some : (last packages : ℕ) (words : List Word) → last ≡ packages → names_above last words ≡ true
    → Any (λ n. packages < n) (map (λ word. word.0) words)
range-some last packages words same some = subst (λ n. Any (λ m. n < m) (map (λ word. word.0) words)) same
    (some-above last (map (λ word. word.0) words) (sym (words-above last words) ∙ some))

hints-none : (last clauses : ℕ) (hints : List ℕ) → last ≡ clauses → is_above last hints ≡ false
    → ¬ Any (λ n. clauses < n) hints
hints-none last clauses hints same none = subst (λ n. ¬ Any (λ m. n < m) hints) same (none-out last hints none)

hints-some : (last clauses : ℕ) (hints : List ℕ) → last ≡ clauses → is_above last hints ≡ true
    → Any (λ n. clauses < n) hints
hints-some last clauses hints same some = subst (λ n. Any (λ m. n < m) hints) same (some-above last hints some)

-- ---- questions

pub question-verdict : (matter : Matter) (h : Header) (before : List CertRecord) (log : ClauseLog)
    → IsLogOf matter before log → (literals : List Word) (found : Option CertCause)
    → TellsQuestion log.variables literals found → IsVerdict matter h before (lines.Question literals) found
question-verdict matter h before log at literals None told =
    faultless_from matter h before (lines.Question literals) none
  where
    none : (cause : CertCause) → may_have (lines.Question literals) cause ≡ true
        → ¬ HasRecordFault matter h before (lines.Question literals) cause
    none causes.OutOfRange may fault = range-none log.variables (matter.variables) literals at.variables told fault
    none cause may fault = false≢true may
question-verdict matter h before log at literals (Some causes.OutOfRange) told =
    first_from matter h before (lines.Question literals) causes.OutOfRange
    (range-some log.variables (matter.variables) literals at.variables told) none
  where
    none : (cause : CertCause) → may_have (lines.Question literals) cause ≡ true → rank cause < 4
        → ¬ HasRecordFault matter h before (lines.Question literals) cause
    none causes.OutOfRange may below fault = omega (arith, below)
    none cause may below fault = false≢true may
question-verdict matter h before log at literals (Some cause) told = absurd told

-- ---- derived lines

same-variables : (matter : Matter) (h : Header) (before : List CertRecord) (log : ClauseLog) → IsLogOf matter before log
    → log.variables ≡ matter.variables
same-variables matter h before log at = at.variables

same-length : (matter : Matter) (h : Header) (before : List CertRecord) (log : ClauseLog) → IsLogOf matter before log
    → length log.clauses ≡ length (numbered matter before)
same-length matter h before log at = ap (λ (cs : List (List Literal)). length cs) at.clauses

pub derived-verdict : (matter : Matter) (h : Header) (before : List CertRecord) (log : ClauseLog)
    → IsLogOf matter before log → (literals : List Word) (hints : List ℕ)
    (found : Option CertCause) → TellsDerived log literals hints found
    → IsVerdict matter h before (lines.Derived literals hints) found
derived-verdict matter h before log at literals hints None told =
    faultless_from matter h before (lines.Derived literals hints) none
  where
    none : (cause : CertCause) → may_have (lines.Derived literals hints) cause ≡ true
        → ¬ HasRecordFault matter h before (lines.Derived literals hints) cause
    none causes.OutOfRange may fault = range-none log.variables (matter.variables) literals at.variables told.0 fault
    none causes.UnknownLine may fault = hints-none (length log.clauses) (length (numbered matter before)) hints
        (same-length matter h before log at) told.1 fault
    none causes.BadLine may fault = fault (subst (λ cs. Follows cs (clause_of literals) hints) at.clauses told.2)
    none cause may fault = false≢true may
derived-verdict matter h before log at literals hints (Some causes.OutOfRange) told =
    first_from matter h before (lines.Derived literals hints) causes.OutOfRange
    (range-some log.variables (matter.variables) literals at.variables told) none
  where
    none : (cause : CertCause) → may_have (lines.Derived literals hints) cause ≡ true → rank cause < 4
        → ¬ HasRecordFault matter h before (lines.Derived literals hints) cause
    none causes.OutOfRange may below fault = omega (arith, below)
    none causes.UnknownLine may below fault = omega (arith, below)
    none causes.BadLine may below fault = omega (arith, below)
    none cause may below fault = false≢true may
derived-verdict matter h before log at literals hints (Some causes.UnknownLine) told =
    first_from matter h before (lines.Derived literals hints) causes.UnknownLine
    (hints-some (length log.clauses) (length (numbered matter before)) hints
    (same-length matter h before log at) told.1) none
  where
    none : (cause : CertCause) → may_have (lines.Derived literals hints) cause ≡ true → rank cause < 6
        → ¬ HasRecordFault matter h before (lines.Derived literals hints) cause
    none causes.OutOfRange may below fault = range-none log.variables
        (matter.variables) literals at.variables told.0 fault
    none causes.UnknownLine may below fault = omega (arith, below)
    none causes.BadLine may below fault = omega (arith, below)
    none cause may below fault = false≢true may
derived-verdict matter h before log at literals hints (Some causes.BadLine) told =
    first_from matter h before (lines.Derived literals hints) causes.BadLine
    (λ follows. told.2 (subst (λ cs. Follows cs (clause_of literals) hints) (sym at.clauses) follows)) none
  where
    none : (cause : CertCause) → may_have (lines.Derived literals hints) cause ≡ true → rank cause < 7
        → ¬ HasRecordFault matter h before (lines.Derived literals hints) cause
    none causes.OutOfRange may below fault = range-none log.variables
        (matter.variables) literals at.variables told.0 fault
    none causes.UnknownLine may below fault = hints-none (length log.clauses) (length (numbered matter before)) hints
        (same-length matter h before log at) told.1 fault
    none causes.BadLine may below fault = omega (arith, below)
    none cause may below fault = false≢true may
derived-verdict matter h before log at literals hints (Some cause) told = absurd told

-- ---- refuted questions

-- what is told of the question that is open
pub refuted-verdict : (matter : Matter) (h : Header) (before : List CertRecord) (log : ClauseLog)
    → IsLogOf matter before log → (question : Option QuestionView)
    → IsQuestionOf matter.inputs before question → (hints : List ℕ) (found : Option CertCause)
    → TellsRefuted log question hints found
    → IsVerdict matter h before (lines.Refuted hints) found
refuted-verdict matter h before log at None q hints found told =
    subst (IsVerdict matter h before (lines.Refuted hints)) (sym told)
    (first_from matter h before (lines.Refuted hints) causes.OutOfOrder q none)
  where
    none : (cause : CertCause) → may_have (lines.Refuted hints) cause ≡ true → rank cause < 5
        → ¬ HasRecordFault matter h before (lines.Refuted hints) cause
    none causes.OutOfOrder may below fault = omega (arith, below)
    none causes.UnknownLine may below fault = omega (arith, below)
    none causes.BadLine may below fault = omega (arith, below)
    none cause may below fault = false≢true may
refuted-verdict matter h before log at (Some question) q hints None told =
    faultless_from matter h before (lines.Refuted hints) none
  where
    none : (cause : CertCause) → may_have (lines.Refuted hints) cause ≡ true
        → ¬ HasRecordFault matter h before (lines.Refuted hints) cause
    none causes.OutOfOrder may fault = fault (q.0, question.assumptions, q.1, q.2)
    none causes.UnknownLine may fault = hints-none (length log.clauses) (length (numbered matter before)) hints
        (same-length matter h before log at) told.0 fault
    none causes.BadLine may fault =
        let one = one-open before fault.0 q.0 fault.1 question.assumptions fault.2 q.1 fault.3 q.2 in
        fault.4 (subst (λ asked. Follows (numbered matter before) (map negation (clause_of asked)) hints) (sym one.1)
        (subst (λ cs. Follows cs (map negation (clause_of question.assumptions)) hints) at.clauses told.1))
    none cause may fault = false≢true may
refuted-verdict matter h before log at (Some question) q hints (Some causes.UnknownLine) told =
    first_from matter h before (lines.Refuted hints) causes.UnknownLine
    (hints-some (length log.clauses) (length (numbered matter before)) hints (same-length matter h before log at) told)
    none
  where
    none : (cause : CertCause) → may_have (lines.Refuted hints) cause ≡ true → rank cause < 6
        → ¬ HasRecordFault matter h before (lines.Refuted hints) cause
    none causes.OutOfOrder may below fault = fault (q.0, question.assumptions, q.1, q.2)
    none causes.UnknownLine may below fault = omega (arith, below)
    none causes.BadLine may below fault = omega (arith, below)
    none cause may below fault = false≢true may
refuted-verdict matter h before log at (Some question) q hints (Some causes.BadLine) told =
    first_from matter h before (lines.Refuted hints) causes.BadLine (
      q.0,
      question.assumptions,
      q.1,
      q.2,
      λ follows. told.1
          (subst (λ cs. Follows cs (map negation (clause_of question.assumptions)) hints) (sym at.clauses) follows),
    ) none
  where
    none : (cause : CertCause) → may_have (lines.Refuted hints) cause ≡ true → rank cause < 7
        → ¬ HasRecordFault matter h before (lines.Refuted hints) cause
    none causes.OutOfOrder may below fault = fault (q.0, question.assumptions, q.1, q.2)
    none causes.UnknownLine may below fault = hints-none (length log.clauses) (length (numbered matter before)) hints
        (same-length matter h before log at) told.0 fault
    none causes.BadLine may below fault = omega (arith, below)
    none cause may below fault = false≢true may
refuted-verdict matter h before log at (Some question) q hints (Some cause) told = absurd told

-- ---- installations

inputs-are : (matter : Matter) (h : Header) (before : List CertRecord) (log : ClauseLog) → IsLogOf matter before log
    → inputs_of log ≡ matter.inputs
inputs-are matter h before log at =
    ap (λ (n : ℕ). take n log.clauses) at.inputs_are
    ∙ ap (λ (cs : List (List Literal)). take (length matter.inputs) cs) at.clauses
    ∙ take_at matter.inputs (derived before) (length matter.inputs) refl

-- a model is a healthy installation
healthy-from : (matter : Matter) (h : Header) (before : List CertRecord) (log : ClauseLog) → IsLogOf matter before log
    → JudgesMembers matter → (variables : List ℕ) → IsModel (is_among variables) (inputs_of log)
    → matter.IsHealthy variables
healthy-from matter h before log at mean variables model =
    ((mean variables).1 (subst (IsModel (is_among variables)) (inputs-are matter h before log at) model)).1

-- and of a future
future-from : (matter : Matter) (h : Header) (before : List CertRecord) (log : ClauseLog) → IsLogOf matter before log
    → JudgesMembers matter → (variables : List ℕ) → IsModel (is_among variables) (inputs_of log)
    → matter.IsFuture variables
future-from matter h before log at mean variables model =
    ((mean variables).1 (subst (IsModel (is_among variables)) (inputs-are matter h before log at) model)).0

model-from : (matter : Matter) (h : Header) (before : List CertRecord) (log : ClauseLog) → IsLogOf matter before log
    → JudgesMembers matter → (variables : List ℕ) → matter.IsFuture variables → matter.IsHealthy variables
    → IsModel (is_among variables) (inputs_of log)
model-from matter h before log at mean variables future healthy =
    subst (IsModel (is_among variables)) (sym (inputs-are matter h before log at))
    ((mean variables).0 (future, healthy))

-- what is a future, by the clauses that are kept
future-is : (matter : Matter) (h : Header) (before : List CertRecord) (log : ClauseLog) → IsLogOf matter before log
    → (future : FutureClauses)
    → AreFuturesBy matter future → (variables : List ℕ)
    → matter.IsFuture variables ↔ StandsForFuture future (is_among variables) (inputs_of log)
future-is matter h before log at future are variables =
    subst (λ clauses. matter.IsFuture variables ↔ StandsForFuture future (is_among variables) clauses)
    (sym (inputs-are matter h before log at))
    (are variables)

-- for kind strong each set stands for a future
future-fault : (matter : Matter) (kind : CertKind) (variables : List ℕ)
    → (kind ≡ kinds.Strong → matter.IsFuture variables) → ¬ matter.IsFuture variables
    → IsNoFuture matter kind (lines.Installation variables)
future-fault matter kinds.Strong variables today none = none (today refl)
future-fault matter kinds.Outdated variables today none = none
future-fault matter kinds.Challenged variables today none = none

no-future-fault : (matter : Matter) (kind : CertKind) (variables : List ℕ) → matter.IsFuture variables
    → ¬ IsNoFuture matter kind (lines.Installation variables)
no-future-fault matter kinds.Strong variables future fault = fault
no-future-fault matter kinds.Outdated variables future fault = fault future
no-future-fault matter kinds.Challenged variables future fault = fault future

pub installation-verdict : (matter : Matter) (h : Header) (before : List CertRecord) (log : ClauseLog)
    → IsLogOf matter before log → JudgesMembers matter
    → (which : FutureClauses) → AreFuturesBy matter which
    → (h.kind ≡ kinds.Strong → (members : List ℕ) → matter.IsFuture members)
    → (variables : List ℕ) (found : Option CertCause) → TellsInstallation log which variables found
    → IsVerdict matter h before (lines.Installation variables) found
installation-verdict matter h before log at mean which are today variables None told =
    faultless_from matter h before (lines.Installation variables) none
  where
    none : (cause : CertCause) → may_have (lines.Installation variables) cause ≡ true
        → ¬ HasRecordFault matter h before (lines.Installation variables) cause
    none causes.OutOfRange may fault = hints-none log.variables (matter.variables) variables at.variables told.0 fault
    none causes.NotAFuture may fault = no-future-fault matter h.kind variables
        (future-from matter h before log at mean variables told.1) fault
    none causes.NotAnInstallation may fault = fault (healthy-from matter h before log at mean variables told.1)
    none cause may fault = false≢true may
installation-verdict matter h before log at mean which are today variables (Some causes.OutOfRange) told =
    first_from matter h before (lines.Installation variables) causes.OutOfRange
    (hints-some log.variables (matter.variables) variables at.variables told) none
  where
    none : (cause : CertCause) → may_have (lines.Installation variables) cause ≡ true → rank cause < 4
        → ¬ HasRecordFault matter h before (lines.Installation variables) cause
    none causes.OutOfRange may below fault = omega (arith, below)
    none causes.NotAFuture may below fault = omega (arith, below)
    none causes.NotAnInstallation may below fault = omega (arith, below)
    none cause may below fault = false≢true may
installation-verdict matter h before log at mean which are today variables (Some causes.NotAFuture) told =
    first_from matter h before (lines.Installation variables) causes.NotAFuture
    (future-fault matter h.kind variables (λ strong. today strong variables)
    (λ future. told.1 ((future-is matter h before log at which are variables).0 future))) none
  where
    none : (cause : CertCause) → may_have (lines.Installation variables) cause ≡ true → rank cause < 8
        → ¬ HasRecordFault matter h before (lines.Installation variables) cause
    none causes.OutOfRange may below fault = hints-none log.variables
        (matter.variables) variables at.variables told.0 fault
    none causes.NotAFuture may below fault = omega (arith, below)
    none causes.NotAnInstallation may below fault = omega (arith, below)
    none cause may below fault = false≢true may
installation-verdict matter h before log at mean which are today variables (Some causes.NotAnInstallation) told =
    first_from matter h before (lines.Installation variables) causes.NotAnInstallation
    (λ healthy. told.2 (model-from matter h before log at mean variables future healthy)) none
  where
    future : matter.IsFuture variables
    future = (future-is matter h before log at which are variables).1 told.1

    none : (cause : CertCause) → may_have (lines.Installation variables) cause ≡ true → rank cause < 9
        → ¬ HasRecordFault matter h before (lines.Installation variables) cause
    none causes.OutOfRange may below fault = hints-none log.variables
        (matter.variables) variables at.variables told.0 fault
    none causes.NotAFuture may below fault = no-future-fault matter h.kind variables future fault
    none causes.NotAnInstallation may below fault = omega (arith, below)
    none cause may below fault = false≢true may
installation-verdict matter h before log at mean which are today variables (Some cause) told = absurd told

-- ---- lines that were new

-- the clauses of some lines were new one after another
pub each-new : (inputs : ℕ) (assumptions : List Literal) (clauses more : List (List Literal))
    → AreNewFrom (clauses ++ more) inputs assumptions (length clauses)
    → EachIsNew clauses inputs assumptions more
each-new inputs assumptions clauses [] new = tt
each-new inputs assumptions clauses (line ∷ more) new =
    let n = length clauses in
    let number : n + 1 - 1 ≡ n = omega arith in
    let first : IsNew (take (n + 1 - 1) (clauses ++ line ∷ more)) inputs assumptions
    (clause_at (clauses ++ line ∷ more) (n + 1)) =
    new (n + 1) (omega arith) (omega (arith, length-append clauses (line ∷ more))) in
    let place : clause_at (clauses ++ line ∷ more) (n + 1) ≡ line = ap
    (λ (k : ℕ). get_or (clauses ++ line ∷ more) k []) number
    ∙ get_or_at clauses line more [] n refl in
    let front : take (n + 1 - 1) (clauses ++ line ∷ more) ≡ clauses = ap
    (λ (k : ℕ). take k (clauses ++ line ∷ more)) number
    ∙ take_at clauses (line ∷ more) n refl in (
      subst (λ cs. IsNew cs inputs assumptions line) front
          (subst (λ c. IsNew (take (n + 1 - 1) (clauses ++ line ∷ more)) inputs assumptions c) place first),
      each-new inputs assumptions (clauses ++ line ∷ []) more
          (subst (λ cs. AreNewFrom cs inputs assumptions (length (clauses ++ line ∷ [])))
          (sym (append_assoc clauses (line ∷ []) more))
          (λ k past upto. new k (omega (arith, past, length-append clauses (line ∷ []))) upto)),
    )

pub new-from-each : (inputs : ℕ) (assumptions : List Literal) (clauses more : List (List Literal))
    → EachIsNew clauses inputs assumptions more
    → AreNewFrom (clauses ++ more) inputs assumptions (length clauses)
new-from-each inputs assumptions clauses [] each k past upto = absurd
    (omega (arith, past, upto, length-append clauses []))
new-from-each inputs assumptions clauses (line ∷ more) each k past upto = elim (cases_lt k (length clauses + 2)) [
  | inl less ↦
      let n = length clauses in
      let is : n + 1 ≡ k = omega (arith, less, past) in
      let number : n + 1 - 1 ≡ n = omega arith in
      let place : line ≡ clause_at (clauses ++ line ∷ more) (n + 1) =
      sym (ap (λ (i : ℕ). get_or (clauses ++ line ∷ more) i []) number ∙ get_or_at clauses line more [] n refl) in
      let front : clauses ≡ take (n + 1 - 1) (clauses ++ line ∷ more) =
      sym (ap (λ (i : ℕ). take i (clauses ++ line ∷ more)) number ∙ take_at clauses (line ∷ more) n refl) in
      subst (λ i. IsNew (take (i - 1) (clauses ++ line ∷ more)) inputs assumptions
      (clause_at (clauses ++ line ∷ more) i)) is
      (subst (λ c. IsNew (take (n + 1 - 1) (clauses ++ line ∷ more)) inputs assumptions c) place
      (subst (λ cs. IsNew cs inputs assumptions line) front each.0))
  | inr later ↦
      let rest = new-from-each inputs assumptions (clauses ++ line ∷ []) more each.1 in
      let whole = subst (λ cs. AreNewFrom cs inputs assumptions (length (clauses ++ line ∷ [])))
      (append_assoc clauses (line ∷ []) more) rest in
      whole k (omega (arith, later, length-append clauses (line ∷ []))) upto
]

-- ---- undecided questions

-- the clauses of the lines before are those before the open question and those since
pub since-question : (inputs : List (List Literal)) (before earlier : List CertRecord) (question : List Word)
    (since : List CertRecord)
    → IsOpen before earlier question since
    → inputs ++ derived before ≡ (inputs ++ derived earlier) ++ derived since
since-question inputs before earlier question since x =
    ap (λ (ls : List CertRecord). inputs ++ derived ls) x.ends
    ∙ ap (λ (cs : List (List Literal)). inputs ++ cs)
    (flat_map-append derived_in earlier (lines.Question question ∷ since))
    ∙ sym (append_assoc inputs (derived earlier) (derived since))

pub undecided-verdict : (matter : Matter) (h : Header) (before : List CertRecord) (log : ClauseLog)
    → IsLogOf matter before log → (question : Option QuestionView)
    → IsQuestionOf matter.inputs before question → (found : Option CertCause)
    → TellsUndecided log h.limit question found
    → IsVerdict matter h before lines.Undecided found
undecided-verdict matter h before log at None q found told =
    subst (IsVerdict matter h before lines.Undecided) (sym told)
    (first_from matter h before lines.Undecided causes.OutOfOrder q none)
  where
    none : (cause : CertCause) → may_have lines.Undecided cause ≡ true → rank cause < 5
        → ¬ HasRecordFault matter h before lines.Undecided cause
    none causes.OutOfOrder may below fault = omega (arith, below)
    none causes.LimitNotReached may below fault = omega (arith, below)
    none causes.NotNew may below fault = omega (arith, below)
    none cause may below fault = false≢true may
undecided-verdict matter h before log at (Some question) q found told = by found told
  where
    split : log.clauses ≡ (matter.inputs ++ derived q.0) ++ derived q.1
    split = at.clauses ∙ since-question matter.inputs before q.0 question.assumptions q.1 q.2

    size : length log.clauses ≡ question.last + length (derived q.1)
    size = ap (λ (cs : List (List Literal)). length cs) split
        ∙ length-append (matter.inputs ++ derived q.0) (derived q.1)
        ∙ ap (λ (n : ℕ). n + length (derived q.1)) (sym q.3)

    in-order : ¬ HasRecordFault matter h before lines.Undecided causes.OutOfOrder
    in-order fault = fault (q.0, question.assumptions, q.1, q.2)

    late : question.last + h.limit ≤ length log.clauses
        → ¬ HasRecordFault matter h before lines.Undecided causes.LimitNotReached
    late enough fault =
        let one = one-open before fault.0 q.0 fault.1 question.assumptions fault.2 q.1 fault.3 q.2 in
        let same : length (derived fault.2) ≡ length (derived q.1) = ap
        (λ (ls : List CertRecord). length (derived ls)) one.2 in
        omega (arith, enough, fault.4, same, size)

    early : length log.clauses < question.last + h.limit
        → HasRecordFault matter h before lines.Undecided causes.LimitNotReached
    early few = (q.0, question.assumptions, q.1, q.2, omega (arith, few, size))

    new : AreNewFrom log.clauses log.inputs (clause_of question.assumptions) question.last
        → EachIsNew (matter.inputs ++ derived q.0) (length matter.inputs) (clause_of question.assumptions) (derived q.1)
    new were =
        each-new (length matter.inputs) (clause_of question.assumptions) (matter.inputs ++ derived q.0) (derived q.1)
        (subst (λ n. AreNewFrom ((matter.inputs ++ derived q.0) ++ derived q.1) (length matter.inputs)
        (clause_of question.assumptions) n) q.3
        (subst (λ n. AreNewFrom ((matter.inputs ++ derived q.0) ++ derived q.1) n
        (clause_of question.assumptions) question.last) at.inputs_are
        (subst (λ cs. AreNewFrom cs log.inputs (clause_of question.assumptions) question.last) split were)))

    were-new : EachIsNew (matter.inputs ++ derived q.0) (length matter.inputs) (clause_of question.assumptions)
        (derived q.1)
        → AreNewFrom log.clauses log.inputs (clause_of question.assumptions) question.last
    were-new each =
        subst (λ cs. AreNewFrom cs log.inputs (clause_of question.assumptions) question.last) (sym split)
        (subst (λ n. AreNewFrom ((matter.inputs ++ derived q.0) ++ derived q.1) n
        (clause_of question.assumptions) question.last) (sym at.inputs_are)
        (subst (λ n. AreNewFrom ((matter.inputs ++ derived q.0) ++ derived q.1) (length matter.inputs)
        (clause_of question.assumptions) n) (sym q.3)
        (new-from-each (length matter.inputs) (clause_of question.assumptions) (matter.inputs ++ derived q.0)
        (derived q.1) each)))

    no-old : AreNewFrom log.clauses log.inputs (clause_of question.assumptions) question.last
        → ¬ HasRecordFault matter h before lines.Undecided causes.NotNew
    no-old were fault =
        let one = one-open before fault.0 q.0 fault.1 question.assumptions fault.2 q.1 fault.3 q.2 in
        let New : List CertRecord → List Word → List CertRecord
        → Type 0 = λ e asked si. EachIsNew (matter.inputs ++ derived e) (length matter.inputs) (clause_of asked)
        (derived si) in
        fault.4 (subst (λ e. New e fault.1 fault.2) (sym one.0)
        (subst (λ asked. New q.0 asked fault.2) (sym one.1)
        (subst (λ si. New q.0 question.assumptions si) (sym one.2) (new were))))

    by : (f : Option CertCause) → TellsUndecided log h.limit (Some question) f
        → IsVerdict matter h before lines.Undecided f
    by None t = faultless_from matter h before lines.Undecided none
      where
        none : (cause : CertCause) → may_have lines.Undecided cause ≡ true
            → ¬ HasRecordFault matter h before lines.Undecided cause
        none causes.OutOfOrder may fault = in-order fault
        none causes.LimitNotReached may fault = late t.0 fault
        none causes.NotNew may fault = no-old t.1 fault
        none cause may fault = false≢true may
    by (Some causes.LimitNotReached) t = first_from matter h before lines.Undecided causes.LimitNotReached
        (early t) none
      where
        none : (cause : CertCause) → may_have lines.Undecided cause ≡ true → rank cause < 10
            → ¬ HasRecordFault matter h before lines.Undecided cause
        none causes.OutOfOrder may below fault = in-order fault
        none causes.LimitNotReached may below fault = omega (arith, below)
        none causes.NotNew may below fault = omega (arith, below)
        none cause may below fault = false≢true may
    by (Some causes.NotNew) t = first_from matter h before lines.Undecided causes.NotNew
        (q.0, question.assumptions, q.1, q.2, λ each. t.1 (were-new each)) none
      where
        none : (cause : CertCause) → may_have lines.Undecided cause ≡ true → rank cause < 11
            → ¬ HasRecordFault matter h before lines.Undecided cause
        none causes.OutOfOrder may below fault = in-order fault
        none causes.LimitNotReached may below fault = late t.0 fault
        none causes.NotNew may below fault = omega (arith, below)
        none cause may below fault = false≢true may
    by (Some cause) t = absurd t
