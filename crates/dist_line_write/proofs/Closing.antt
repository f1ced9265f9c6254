-- What may close a question, and where there is no room for an answer.
use Rattle.std.proofs.Common.{◌≡◌, inl, ℕ, List, [], ◌∷◌, ◌++◌, length, map, take, drop, refl, ap, sym, subst, ◌∙◌, append_assoc, arith}
use Rattle.std.proofs.Common.{length-append, Ok, Err}
use Rattle.std.proofs.Math.Seq.{drop-append_seam}
use Rattle.std.proofs.lemmas.List.{take-append-le, take_all}
use Rattle.std.proofs.lemmas.List.Sums.{sum_by-append}
use Rattle.dist_clause.specs.ClauseList.{literal_count}
use Rattle.dist_clause.specs.Formula.{Literal, negation, IsClauseOver, IsModel, value_of}
use Rattle.dist_derive.specs.ClauseLog.{ClauseLog, IsWithinLineLimits, inputs_of, lines_of}
use Rattle.dist_derive.specs.Follows.{Follows}
use Rattle.dist_derive.specs.New.{EachIsNew, IsNew}
use Rattle.dist_outside.specs.DeskView.{DeskView, FileGrew}
use Rattle.dist_outside.specs.declared.trouble.What.TheVariants.{Lines, LineLiterals}
use Rattle.dist_outside.specs.declared.trouble.WorkError.{WorkError}
use Rattle.dist_outside.specs.declared.trouble.WorkError.TheVariants.{TooLarge, NoMemory}
use Rattle.dist_solver.specs.Ask.{HasNext, IsAnswer}
use Rattle.dist_solver.specs.Derived.{DerivedLine}
use Rattle.dist_solver.specs.Evidence.{Adds}
use Rattle.dist_solver.specs.declared.answers.Answer.{Answer}
use Rattle.dist_solver.specs.declared.answers.Answer.TheVariants.{Found, Refuted, Undecided}
use Rattle.dist_solver.specs.declared.answers.AskError.{AskError}
use Rattle.dist_solver.specs.declared.answers.AskError.TheVariants as asks
use Rattle.dist_cert.specs.declared.records.CertRecord.{CertRecord}
use Rattle.dist_cert.specs.declared.records.CertRecord.TheVariants.{Question, Derived}
use Rattle.dist_cert.specs.Form.{Word}
use Rattle.dist_cert.specs.Groups.{clause_of, derived, numbered}
use Rattle.dist_cert.specs.FileLines.{lines_text}
use Rattle.dist_cert.specs.Writing.{WriterView}
use Rattle.dist_line_write.specs.Asking.{work_of, IsLogAt, IsDerived, MayDerive}
use Rattle.dist_line_write.specs.Script.{IsLine, NoQuestion, Script, IsWriter, Stops, PutAll, PutAllStops, matter_in}
use Rattle.dist_line_write.specs.Script.{KeepsLines}
use Rattle.dist_line_write.specs.ScriptLaws.{none-asked, stopped-here, stops-after, BeginsLaw, TwiceLaw}
use Rattle.dist_line_write.specs.Words.{IsAnswerOver, closing_line, derived_lines, words_of}
use Rattle.dist_line_write.proofs.Lines.{all-numbered, derived-line, from-one, installation-line, refuted-line, undecided-line}
use Rattle.dist_line_write.proofs.DerivedLines.{derived-push}
use Rattle.dist_line_write.proofs.Answered.{IsSmallLog, asking-derived, derived-all, lines-are, log-derived, only-derived}

pub inputs-are : (g : Script) (before : List CertRecord) (log : ClauseLog) (limit : ℕ) → IsLogAt g before log limit → inputs_of log ≡ g.inputs
inputs-are g before log limit at =
    ap (λ (n : ℕ). take n log.clauses) at.inputs ∙ ap (λ (cs : List (List Literal)). take (length g.inputs) cs) at.clauses
    ∙ take-append-le (length g.inputs) g.inputs (derived before) (omega arith) ∙ take_all (length g.inputs)
    g.inputs (omega arith)

lines-of : (g : Script) (before : List CertRecord) (log : ClauseLog) (limit : ℕ) → IsLogAt g before log limit → lines_of log ≡ derived before
lines-of g before log limit at =
    ap (λ (n : ℕ). drop n log.clauses) at.inputs ∙ ap (λ (cs : List (List Literal)). drop (length g.inputs) cs) at.clauses
    ∙ drop-append_seam g.inputs (derived before)

-- what a log holds keeps the log's limits
kept-by-log : (g : Script) (before : List CertRecord) (log : ClauseLog) (limit : ℕ) → IsLogAt g before log limit → IsWithinLineLimits log
    → KeepsLines g.limits before
kept-by-log g before log limit at within =
    let lines = lines-of g before log limit at in
    record {
      count = omega (arith, within.lines_within, ap length lines, at.line_limit);
      literals = omega (arith, within.literals_within, ap literal_count lines, at.line_literal_limit);
    }

kept-derived : (g : Script) (before : List CertRecord) (question : List Word) (old new : ClauseLog) (ds : List DerivedLine) (limit : ℕ)
    → IsLogAt g before old limit
    → Adds old new ds (clause_of question) limit → IsSmallLog new → KeepsLines g.limits ((before ++ Question question ∷ []) ++ derived_lines new.clauses ds)
kept-derived g before question old new ds limit at adds small =
    subst (KeepsLines g.limits) (sym (append_assoc before (Question question ∷ []) (derived_lines new.clauses ds)))
    (kept-by-log g (before ++ Question question ∷ derived_lines new.clauses ds) new limit (log-derived g before question old new ds limit at adds)
    small.within)

-- ---- the line of the answer

pub closing-next : (g : Script) (before : List CertRecord) (question : List Word) (old new : ClauseLog) (ds : List DerivedLine) (limit : ℕ)
    (answer : Answer) → IsLogAt g before old limit
    → Adds old new ds (clause_of question) limit → IsSmallLog new → IsAnswer old new (clause_of question) limit (Ok answer)
    → IsLine g (before ++ Question question ∷ derived_lines new.clauses ds) (closing_line answer)
unfolding asking-derived
closing-next g before question old new ds limit (Found values) at adds small answered =
    let behind = log-derived g before question old new ds limit at adds in
    let size : length values ≡ g.variables = answered.variables ∙ at.variables in
    installation-line g (before ++ Question question ∷ derived_lines new.clauses ds) values behind.not_ended
    (omega (arith, small.variables, behind.variables)) size
    (subst (IsModel (value_of values)) (inputs-are g before old limit at) answered.model)
    (question, derived_lines new.clauses ds, asking-derived before question new.clauses ds)
closing-next g before question old new ds limit (Refuted hints) at adds small answered =
    let behind = log-derived g before question old new ds limit at adds in
    refuted-line g (before ++ Question question ∷ derived_lines new.clauses ds) hints question (derived_lines new.clauses ds) behind.not_ended
    (omega (arith, small.clauses, ap length behind.clauses))
    (subst (λ cs. Follows cs (map negation (clause_of question)) hints) behind.clauses answered.follows)
    (omega (arith, answered.short, behind.variables)) (asking-derived before question new.clauses ds)
closing-next g before question old new ds limit Undecided at adds small answered =
    let behind = log-derived g before question old new ds limit at adds in
    let are = lines-are old new ds (clause_of question) limit adds in
    let clauses : new.clauses ≡ old.clauses ++ adds.lines = ap (λ (l : ClauseLog). l.clauses) adds.log in
    undecided-line g (before ++ Question question ∷ derived_lines new.clauses ds) question (derived_lines new.clauses ds) behind.not_ended
    (asking-derived before question new.clauses ds)
    (omega (arith, answered.lines, ap length clauses, length-append old.clauses adds.lines, ap length are, at.limit_is))
    (subst (λ ls. EachIsNew (numbered (matter_in g) before) (length g.inputs) (clause_of question) ls) (sym are)
    (subst (λ cs. EachIsNew cs (length g.inputs) (clause_of question) adds.lines) at.clauses
    (subst (λ n. EachIsNew old.clauses n (clause_of question) adds.lines) at.inputs adds.are_new)))

-- ---- a line for which there is no room

next-line : (g : Script) (before : List CertRecord) (question : List Word) (old new : ClauseLog) (ds : List DerivedLine) (limit : ℕ)
    (clause : List Literal)
    → IsLogAt g before old limit
    → Adds old new ds (clause_of question) limit → IsSmallLog new → (next : HasNext old new (clause_of question) limit clause)
    → IsLine g (before ++ Question question ∷ derived_lines new.clauses ds) (Derived (words_of clause) next.hints)
next-line g before question old new ds limit clause at adds small next =
    let behind = log-derived g before question old new ds limit at adds in
    let are = lines-are old new ds (clause_of question) limit adds in
    let clauses : new.clauses ≡ old.clauses ++ adds.lines = ap (λ (l : ClauseLog). l.clauses) adds.log in
    derived-line g (before ++ Question question ∷ derived_lines new.clauses ds) clause next.hints question (derived_lines new.clauses ds)
    behind.not_ended (omega (arith, small.variables, behind.variables))
    (omega (arith, small.clauses, ap length behind.clauses)) (subst (λ n. IsClauseOver n clause) behind.variables next.over)
    (subst (λ cs. Follows cs clause next.hints) behind.clauses next.follows)
    (omega (arith, next.short, behind.variables)) (asking-derived before question new.clauses ds)
    (omega (arith, next.lines_left, ap length clauses, length-append old.clauses adds.lines, ap length are, at.limit_is))
    (subst (λ cs. IsNew cs (length g.inputs) (clause_of question) clause) behind.clauses
    (subst (λ n. IsNew new.clauses n (clause_of question) clause) behind.inputs next.is_new))

-- no room is left for an answer
pub no-answer : BeginsLaw → TwiceLaw → (g : Script) (before : List CertRecord) (question : List Word) (old new : ClauseLog) (ds : List DerivedLine)
    (limit : ℕ)
    (first last : DeskView) (after : WriterView) (error : AskError)
    → IsLogAt g before old limit → Adds old new ds (clause_of question) limit → IsSmallLog new → IsAnswer old new (clause_of question) limit (Err error)
    → FileGrew (lines_text (derived_lines new.clauses ds)) first last → IsWriter g ((before ++ Question question ∷ []) ++ derived_lines new.clauses ds)
    after
    → Stops g NoQuestion (before ++ Question question ∷ []) first last (work_of error)
no-answer begins twice g before question old new ds limit first last after error at adds small answered grew writer =
    stops-after twice g NoQuestion (before ++ Question question ∷ []) (derived_lines new.clauses ds) first last last (work_of error) grew
    (none-asked NoQuestion (before ++ Question question ∷ []) (derived_lines new.clauses ds) (only-derived new.clauses ds))
    (derived-all g before question old new ds limit at adds small)
    (subst (λ ls. Stops g NoQuestion ls last last (work_of error)) (sym place) (by error answered))
  where
    place : (before ++ Question question ∷ []) ++ derived_lines new.clauses ds ≡ before ++ Question question ∷ derived_lines new.clauses ds
    place = append_assoc before (Question question ∷ []) (derived_lines new.clauses ds)

    stands : IsWriter g (before ++ Question question ∷ derived_lines new.clauses ds) after
    stands = subst (λ ls. IsWriter g ls after) place writer

    by : (error : AskError) → IsAnswer old new (clause_of question) limit (Err error)
        → Stops g NoQuestion (before ++ Question question ∷ derived_lines new.clauses ds) last last (work_of error)
    by asks.TooManyLines next =
        let behind = log-derived g before question old new ds limit at adds in
        let step = Derived (words_of next.0) next.1.hints in
        let some = ap length (derived-push (before ++ Question question ∷ derived_lines new.clauses ds) next.0 next.1.hints) in
        let one = length-append (derived (before ++ Question question ∷ derived_lines new.clauses ds)) (next.0 ∷ []) in
        let here = ap length (lines-of g (before ++ Question question ∷ derived_lines new.clauses ds) new limit behind) in
        stopped-here g NoQuestion (before ++ Question question ∷ derived_lines new.clauses ds) after last last (TooLarge Lines) [] stands
        (begins last) (inl refl) (
          refl,
          (
            step,
            (next-line g before question old new ds limit next.0 at adds small next.1, tt),
            omega (arith, some, one, here, next.2, behind.line_limit),
          ),
        )
    by asks.TooManyLiterals next =
        let behind = log-derived g before question old new ds limit at adds in
        let step = Derived (words_of next.0) next.1.hints in
        let some = ap literal_count (derived-push (before ++ Question question ∷ derived_lines new.clauses ds) next.0 next.1.hints) in
        let one = sum_by-append (λ (c : List Literal). length c) (derived (before ++ Question question ∷ derived_lines new.clauses ds)) (next.0 ∷ []) in
        let here = ap literal_count (lines-of g (before ++ Question question ∷ derived_lines new.clauses ds) new limit behind) in
        stopped-here g NoQuestion (before ++ Question question ∷ derived_lines new.clauses ds) after last last (TooLarge LineLiterals) [] stands (begins last)
        (inl refl) (
          refl,
          (
            step,
            (next-line g before question old new ds limit next.0 at adds small next.1, tt),
            omega (arith, some, one, here, next.3, behind.line_literal_limit),
          ),
        )
    by asks.NoMemory next =
        stopped-here g NoQuestion (before ++ Question question ∷ derived_lines new.clauses ds) after last last NoMemory [] stands (begins last)
        (inl refl) tt

-- ---- what is derived

abbrev pub Derives : ClauseLog → ClauseLog → List Literal → ℕ → DeskView → DeskView → WriterView → WriterView → Answer → Type 0
Derives old new assumptions limit first last w after answer = (g : Script) (before : List CertRecord) (question : List Word)
    → clause_of question ≡ assumptions
    → MayDerive g before question old limit w
    → IsDerived g before question first last old new limit after answer

abbrev pub DerivesNone : ClauseLog → List Literal → ℕ → DeskView → DeskView → WriterView → WorkError → Type 0
DerivesNone old assumptions limit first last w error = (g : Script) (before : List CertRecord) (question : List Word) → clause_of question ≡ assumptions
    → MayDerive g before question old limit w
    → Stops g NoQuestion (before ++ Question question ∷ []) first last error

pub derives : (old new : ClauseLog) (ds : List DerivedLine) (assumptions : List Literal) (limit : ℕ) (first last : DeskView) (w after : WriterView)
    (answer : Answer) → Adds old new ds assumptions limit
    → IsSmallLog new → IsAnswer old new assumptions limit (Ok answer) → FileGrew (lines_text (derived_lines new.clauses ds)) first last
    → PutAll w after (derived_lines new.clauses ds)
    → Derives old new assumptions limit first last w after answer
derives old new ds assumptions limit first last w after answer adds small answered grew more g before question is may =
    let adds' = subst (λ a. Adds old new ds a limit) (sym is) adds in
    let answered' = subst (λ a. IsAnswer old new a limit (Ok answer)) (sym is) answered in
    record {
      between = derived_lines new.clauses ds;
      only_derived = only-derived new.clauses ds;
      grew = grew;
      next = derived-all g before question old new ds limit may.log_at adds' small;
      log_at = log-derived g before question old new ds limit may.log_at adds';
      writer = subst (λ ls. IsWriter g ls after) (append_assoc before (Question question ∷ []) (derived_lines new.clauses ds))
          (more g (before ++ Question question ∷ []) may.writer
          (kept-derived g before question old new ds limit may.log_at adds' small));
      closing = closing-next g before question old new ds limit answer may.log_at adds' small answered';
      answered = answered';
    }

pub derives-none : BeginsLaw → TwiceLaw → (old new : ClauseLog) (ds : List DerivedLine) (assumptions : List Literal) (limit : ℕ) (first last : DeskView)
    (w after : WriterView) (error : AskError)
    → Adds old new ds assumptions limit → IsSmallLog new → IsAnswer old new assumptions limit (Err error)
    → FileGrew (lines_text (derived_lines new.clauses ds)) first last
    → PutAll w after (derived_lines new.clauses ds) → DerivesNone old assumptions limit first last w (work_of error)
derives-none begins twice old new ds assumptions limit first last w after error adds small answered grew more g before question is may =
    let adds' = subst (λ a. Adds old new ds a limit) (sym is) adds in
    no-answer begins twice g before question old new ds limit first last after error may.log_at adds' small
    (subst (λ a. IsAnswer old new a limit (Err error)) (sym is) answered) grew
    (more g (before ++ Question question ∷ []) may.writer
    (kept-derived g before question old new ds limit may.log_at adds' small))

pub derives-stopped : (old new : ClauseLog) (ds : List DerivedLine) (assumptions : List Literal) (limit : ℕ) (first last : DeskView) (w : WriterView)
    (error : WorkError)
    → Adds old new ds assumptions limit → IsSmallLog new → PutAllStops w (derived_lines new.clauses ds) first last error
    → DerivesNone old assumptions limit first last w error
derives-stopped old new ds assumptions limit first last w error adds small stops g before question is may =
    let adds' = subst (λ a. Adds old new ds a limit) (sym is) adds in
    stops g (before ++ Question question ∷ []) may.writer (derived-all g before question old new ds limit may.log_at adds' small)
    (kept-derived g before question old new ds limit may.log_at adds' small)

pub answer-over : (old new : ClauseLog) (assumptions : List Literal) (limit : ℕ) (answer : Answer) → IsAnswer old new assumptions limit (Ok answer)
    → IsAnswerOver old.variables answer
answer-over old new assumptions limit (Found values) answered = answered.variables
answer-over old new assumptions limit (Refuted hints) answered =
    from-one new.clauses hints (all-numbered new.clauses (map negation (map negation assumptions)) hints answered.follows)
answer-over old new assumptions limit Undecided answered = tt
