-- What stands behind the lines of a question, and what may close it.
use Rattle.std.proofs.Common.{◌≡◌, ℕ, ◌+◌, ◌<◌, ◌≤◌, ◌^◌, true, false, List, [], ◌∷◌, ◌++◌, length, map, refl, ap}
use Rattle.std.proofs.Common.{sym, subst, ◌∙◌, append_assoc, append-nil, arith, length-append}
use Rattle.std.specs.List.{All, AllPass, list_any}
use Rattle.std.proofs.lemmas.List.Elements.{All-map, All-nil, All-cons, All-tail}
use Rattle.dist_base.specs.declared.TheConstants.{MAX_CLAUSES, MAX_LINES, MAX_VARIABLES}
use Rattle.dist_clause.specs.Formula.{Literal, negation, IsClauseOver}
use Rattle.dist_derive.specs.ClauseLog.{ClauseLog, IsWithinLineLimits}
use Rattle.dist_derive.specs.New.{EachIsNew}
use Rattle.dist_solver.specs.Derived.{DerivedLine}
use Rattle.dist_solver.specs.Evidence.{Adds, EachIsEvidence, IsShort}
use Rattle.dist_cert.specs.declared.records.CertRecord.{CertRecord}
use Rattle.dist_cert.specs.declared.records.CertRecord.TheVariants.{Question}
use Rattle.dist_cert.specs.Form.{Word, AreFromOne, is_end}
use Rattle.dist_cert.specs.Groups.{clause_of, derived, installations, leaves_open, numbered}
use Rattle.dist_cert.specs.Part.{IsAsking}
use Rattle.dist_line_write.specs.Asking.{is_derived, IsLogAt}
use Rattle.dist_line_write.specs.LineLaws.{none-ended, derived-append}
use Rattle.dist_line_write.specs.Script.{Script, AllNext, matter_in}
use Rattle.dist_line_write.specs.Words.{AreDerived, derived_line, derived_lines}
use Rattle.dist_line_write.proofs.Lines.{all-numbered, clause-words}
use Rattle.dist_line_write.proofs.DerivedLines.{records, derived-next, records-same}
use Rattle.dist_line_write.proofs.Opened.{asking-first}

-- ---- derived lines

pub derived-records : (clauses lines : List (List Literal)) (ds : List DerivedLine) → EachIsEvidence clauses lines ds → derived (records lines ds) ≡ lines
derived-records clauses [] [] evidence = refl
derived-records clauses [] (d ∷ ds) evidence = absurd evidence
derived-records clauses (line ∷ lines) [] evidence = absurd evidence
derived-records clauses (line ∷ lines) (d ∷ ds) evidence =
    ap (λ (c : List Literal). c ∷ derived (records lines ds)) (clause-words line)
    ∙ ap (λ (cs : List (List Literal)). line ∷ cs) (derived-records (clauses ++ line ∷ []) lines ds evidence.2)

pub lines-are : (old new : ClauseLog) (ds : List DerivedLine) (assumptions : List Literal) (limit : ℕ) (adds : Adds old new ds assumptions limit)
    → derived (derived_lines new.clauses ds) ≡ adds.lines
lines-are old new ds assumptions limit adds =
    ap derived (sym (records-same old.clauses adds.lines ds new.clauses adds.follow (ap (λ (l : ClauseLog). l.clauses) adds.log)))
    ∙ derived-records old.clauses adds.lines ds adds.follow

-- each is a derived line, which is no end, leaves a question open and has no installation
pub only-derived : (clauses : List (List Literal)) (ds : List DerivedLine) → AllPass is_derived (derived_lines clauses ds)
only-derived clauses ds = All-map (λ step. is_derived step ≡ true) (derived_line clauses) ds (λ k d within. refl)

pub leaves-open : (clauses : List (List Literal)) (ds : List DerivedLine) → AllPass leaves_open (derived_lines clauses ds)
leaves-open clauses ds = All-map (λ step. leaves_open step ≡ true) (derived_line clauses) ds (λ k d within. refl)

pub none-installed : (clauses : List (List Literal)) (ds : List DerivedLine) → installations (derived_lines clauses ds) ≡ []
none-installed clauses [] = refl
none-installed clauses (d ∷ ds) = none-installed clauses ds

no-ends : (clauses : List (List Literal)) (ds : List DerivedLine) → list_any is_end (derived_lines clauses ds) ≡ false
no-ends clauses [] = refl
no-ends clauses (d ∷ ds) = no-ends clauses ds

pub derived-over : (clauses lines : List (List Literal)) (ds : List DerivedLine) (all : List (List Literal)) → EachIsEvidence clauses lines ds
    → all ≡ clauses ++ lines → AreDerived all ds
derived-over clauses [] [] all evidence is = All-nil (λ d. (1 ≤ d.line) × (d.line ≤ length all) × AreFromOne d.hints)
derived-over clauses [] (d ∷ ds) all evidence is = absurd evidence
derived-over clauses (line ∷ lines) [] all evidence is = absurd evidence
derived-over clauses (line ∷ lines) (d ∷ ds) all evidence is =
    let numbers = all-numbered clauses (map negation line) d.hints evidence.1 in
    All-cons (λ e. (1 ≤ e.line) × (e.line ≤ length all) × AreFromOne e.hints) d ds
    (omega (arith, evidence.0), omega (arith, evidence.0, ap length is, length-append clauses (line ∷ lines)), λ k x within. (numbers k x within).0)
    (derived-over (clauses ++ line ∷ []) lines ds all evidence.2 (is ∙ sym (append_assoc clauses (line ∷ []) lines)))

-- ---- behind the question's own line

after-question : (g : Script) (before : List CertRecord) (question : List Word) (log : ClauseLog) (limit : ℕ) → IsLogAt g before log limit
    → numbered (matter_in g) (before ++ Question question ∷ []) ≡ log.clauses
after-question g before question log limit at = ap (λ (cs : List (List Literal)). g.inputs ++ cs)
    (derived-append before (Question question ∷ []) ∙ append-nil (derived before)) ∙ sym at.clauses

all-right : {X : Type 0} (P : X → Type 0) (xs ys : List X) → All P (xs ++ ys) → All P ys
all-right P [] ys all = all
all-right P (x ∷ xs) ys all = all-right P xs ys (All-tail P x (xs ++ ys) all)

-- the log is small enough for its numbers to be written
pub record IsSmallLog (log : ClauseLog) : Type 0 where
  pub variables : log.variables < 2 ^ 32
  pub clauses : length log.clauses < 2 ^ 32
  pub within : IsWithinLineLimits log

pub small-log : (told log : ClauseLog) → told ≡ log → told.variables ≤ MAX_VARIABLES → length told.clauses ≤ MAX_CLAUSES + MAX_LINES
    → IsWithinLineLimits told → IsSmallLog log
small-log told log is stated total within = subst IsSmallLog is
    (record { variables = omega (arith, stated); clauses = omega (arith, total); within = within })

pub derived-all : (g : Script) (before : List CertRecord) (question : List Word) (old new : ClauseLog) (ds : List DerivedLine) (limit : ℕ)
    → IsLogAt g before old limit
    → Adds old new ds (clause_of question) limit → IsSmallLog new → AllNext g (before ++ Question question ∷ []) (derived_lines new.clauses ds)
derived-all g before question old new ds limit at adds small =
    let clauses : new.clauses ≡ old.clauses ++ adds.lines = ap (λ (l : ClauseLog). l.clauses) adds.log in
    let variables : new.variables ≡ g.variables = ap (λ (l : ClauseLog). l.variables) adds.log ∙ at.variables in
    let over : All (IsClauseOver g.variables) adds.lines
    = all-right (IsClauseOver g.variables) old.clauses adds.lines
    (subst (λ cs. All (IsClauseOver g.variables) cs) clauses (subst (λ n. All (IsClauseOver n) new.clauses) variables small.within.over_variables))
    in
    subst (λ (rs : List CertRecord). AllNext g (before ++ Question question ∷ []) rs) (records-same old.clauses adds.lines ds new.clauses adds.follow clauses)
    (derived-next g question (omega (arith, small.variables, variables)) (before ++ Question question ∷ []) [] old.clauses adds.lines ds
    (none-ended before (Question question ∷ []) at.not_ended refl)
    (asking-first before question) (after-question g before question old limit at) adds.follow
    (subst (λ n. EachIsNew old.clauses n (clause_of question) adds.lines) at.inputs adds.are_new)
    (subst (λ n. All (λ d. IsShort n d.hints) ds) at.variables adds.short) over (omega (arith, adds.few, at.limit_is))
    (omega (arith, small.clauses, ap length clauses, length-append old.clauses adds.lines)))

-- ---- behind the derived lines

unfoldable pub asking-derived : (before : List CertRecord) (question : List Word) (clauses : List (List Literal)) (ds : List DerivedLine)
    → IsAsking (before ++ Question question ∷ derived_lines clauses ds) question (derived_lines clauses ds)
asking-derived before question clauses ds = record {
  earlier = before;
  opened = record { ends = refl; left_open = leaves-open clauses ds };
  no_installation = none-installed clauses ds;
}

pub log-derived : (g : Script) (before : List CertRecord) (question : List Word) (old new : ClauseLog) (ds : List DerivedLine) (limit : ℕ)
    → IsLogAt g before old limit → Adds old new ds (clause_of question) limit
    → IsLogAt g (before ++ Question question ∷ derived_lines new.clauses ds) new limit
log-derived g before question old new ds limit at adds = record {
  limit_is = at.limit_is;
  clauses = ap (λ (l : ClauseLog). l.clauses) adds.log ∙ ap (λ (cs : List (List Literal)). cs ++ adds.lines) at.clauses
      ∙ append_assoc g.inputs (derived before) adds.lines
      ∙ ap (λ (cs : List (List Literal)). g.inputs ++ (derived before ++ cs)) (sym (lines-are old new ds (clause_of question) limit adds))
      ∙ ap (λ (cs : List (List Literal)). g.inputs ++ cs) (sym (derived-append before (Question question ∷ derived_lines new.clauses ds)));
  inputs = ap (λ (l : ClauseLog). l.inputs) adds.log ∙ at.inputs;
  variables = ap (λ (l : ClauseLog). l.variables) adds.log ∙ at.variables;
  line_limit = ap (λ (l : ClauseLog). l.line_limit) adds.log ∙ at.line_limit;
  line_literal_limit = ap (λ (l : ClauseLog). l.line_literal_limit) adds.log ∙ at.line_literal_limit;
  not_ended = none-ended before (Question question ∷ derived_lines new.clauses ds) at.not_ended (no-ends new.clauses ds);
}
