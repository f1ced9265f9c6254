-- One more line behind those that a question has added.
use Rattle.std.proofs.Common.{◌≡◌, ℕ, ◌+◌, ◌<◌, ◌≤◌, Bool, List, [], ◌∷◌, ◌++◌, length, ap, sym, subst, ◌∙◌, append_assoc, arith, Result, Ok, Err}
use Rattle.std.specs.List.{All}
use Rattle.std.specs.Result.{IsErrAnd}
use Rattle.std.proofs.lemmas.List.{append-nil, length_push, length-append, take-append-le}
use Rattle.std.proofs.lemmas.List.Elements.{All-push}
use Rattle.dist_clause.specs.Formula.{Literal, value_of, IsModel}
use Rattle.dist_derive.specs.ClauseLog.{ClauseLog, inputs_of}
use Rattle.dist_derive.specs.Follows.{Follows}
use Rattle.dist_derive.specs.New.{IsNew, EachIsNew}
use Rattle.dist_search.specs.Learned.{LearnedClause}
use Rattle.dist_search.specs.Search.{IsFound, IsNewLine}
use Rattle.dist_solver.specs.Derived.{DerivedLine}
use Rattle.dist_solver.specs.Evidence.{EachIsEvidence, IsShort, Adds}
use Rattle.dist_solver.specs.Ask.{IsModelUnder, HasNext, IsAnswer}
use Rattle.dist_solver.specs.LearningPrivate.{IsRefused}
use Rattle.dist_solver.specs.declared.answers.Answer.{Answer}
use Rattle.dist_solver.specs.declared.answers.AskError.{AskError}
use Rattle.dist_solver.specs.declared.answers.AskError.TheVariants.{TooManyLines, TooManyLiterals, NoMemory}

evidence_more : (clauses lines : List (List Literal)) (derived : List DerivedLine) (clause : List Literal) (d : DerivedLine)
    → EachIsEvidence clauses lines derived
    → d.line ≡ length (clauses ++ lines) + 1 → Follows (clauses ++ lines) clause d.hints → EachIsEvidence clauses (lines ++ clause ∷ []) (derived ++ d ∷ [])
evidence_more clauses [] [] clause d h number follows = (
  number
      ∙ ap (λ cs. length cs + 1) (append-nil clauses),
  subst (λ cs. Follows cs clause d.hints) (append-nil clauses) follows,
  tt,
)
evidence_more clauses [] (e ∷ derived) clause d h number follows = absurd h
evidence_more clauses (line ∷ lines) [] clause d h number follows = absurd h
evidence_more clauses (line ∷ lines) (e ∷ derived) clause d h number follows = (
  h.0,
  h.1,
  evidence_more (clauses ++ line ∷ []) lines derived clause d h.2 (number ∙ ap (λ cs. length cs + 1) (sym (append_assoc clauses (line ∷ []) lines)))
      (subst (λ cs. Follows cs clause d.hints) (sym (append_assoc clauses (line ∷ []) lines)) follows),
)

new_more : (clauses lines : List (List Literal)) (inputs : ℕ) (assumptions clause : List Literal) → EachIsNew clauses inputs assumptions lines
    → IsNew (clauses ++ lines) inputs assumptions clause → EachIsNew clauses inputs assumptions (lines ++ clause ∷ [])
new_more clauses [] inputs assumptions clause h is_new = (subst (λ cs. IsNew cs inputs assumptions clause) (append-nil clauses) is_new, tt)
new_more clauses (line ∷ lines) inputs assumptions clause h is_new = (
  h.0,
  new_more (clauses ++ line ∷ []) lines inputs assumptions clause h.1
      (subst (λ cs. IsNew cs inputs assumptions clause) (sym (append_assoc clauses (line ∷ []) lines)) is_new),
)

module _ (old new : ClauseLog) (derived : List DerivedLine) (assumptions : List Literal) (count : ℕ) (adds : Adds old new derived assumptions count) where
  pub adds_more : (next : ClauseLog) (more : List DerivedLine) (learned : LearnedClause) → IsNewLine new assumptions learned
      → next ≡ record new { clauses = new.clauses ++ learned.clause ∷ [] }
      → more ≡ derived ++ record { line = length new.clauses + 1; hints = learned.hints } ∷ []
      → Adds old next more assumptions (count + 1)
  adds_more next more learned lesson log_is derived_is = record {
    lines = adds.lines ++ learned.clause ∷ [];
    log = log_is ∙ (ap (λ (l : ClauseLog). record l { clauses = l.clauses ++ learned.clause ∷ [] }) adds.log
        ∙ ap (λ cs. record old { clauses = cs }) (append_assoc old.clauses adds.lines (learned.clause ∷ [])));
    follow = subst (λ ds. EachIsEvidence old.clauses (adds.lines ++ learned.clause ∷ []) ds) (sym derived_is)
        (evidence_more old.clauses adds.lines derived learned.clause (record { line = length new.clauses + 1; hints = learned.hints }) adds.follow
        (ap (λ (l : ClauseLog). length l.clauses + 1) adds.log)
        (subst (λ (l : ClauseLog). Follows l.clauses learned.clause learned.hints) adds.log lesson.follows));
    are_new = new_more old.clauses adds.lines old.inputs assumptions learned.clause adds.are_new
        (subst (λ (l : ClauseLog). IsNew l.clauses l.inputs assumptions learned.clause) adds.log lesson.is_new);
    short = subst (λ ds. All (λ d. IsShort old.variables d.hints) ds) (sym derived_is)
        (All-push (λ d. IsShort old.variables d.hints) derived (record { line = length new.clauses + 1; hints = learned.hints }) adds.short
        (subst (λ (l : ClauseLog). IsShort l.variables learned.hints) adds.log lesson.short));
    few = omega (arith, adds.few, length_push adds.lines learned.clause);
  }

  -- the same under a higher limit
  pub at_most : (limit : ℕ) → count ≤ limit → Adds old new derived assumptions limit
  at_most limit within = record {
    lines = adds.lines;
    log = adds.log;
    follow = adds.follow;
    are_new = adds.are_new;
    short = adds.short;
    few = omega (arith, adds.few, within);
  }

  pub inputs_same : old.inputs ≤ length old.clauses → inputs_of new ≡ inputs_of old
  inputs_same within = ap inputs_of adds.log ∙ take-append-le old.inputs old.clauses adds.lines within

  pub inputs_within : old.inputs ≤ length old.clauses → new.inputs ≤ length new.clauses
  inputs_within within = omega (
    arith,
    within,
    ap (λ (l : ClauseLog). l.inputs) adds.log,
    ap (λ (l : ClauseLog). length l.clauses) adds.log,
    length-append old.clauses adds.lines,
  )

  variables_same : new.variables ≡ old.variables
  variables_same = ap (λ (l : ClauseLog). l.variables) adds.log

  pub model_of_old : (values : List Bool) → old.inputs ≤ length old.clauses → IsFound new assumptions values → IsModelUnder old assumptions values
  model_of_old values within m = record {
    variables = m.variables ∙ variables_same;
    model = subst (λ cs. IsModel (value_of values) cs) (inputs_same within) m.model;
    assumed = m.assumed;
  }

  -- a log refuses a line that it could have
  pub refused : (next : ClauseLog) (learned : LearnedClause) (limit : ℕ) (cause : AskError) (r : Result Answer AskError) → IsNewLine new assumptions learned
      → length new.clauses ≡ length old.clauses + count → count < limit → next ≡ new → IsRefused new learned.clause cause → IsErrAnd r (λ e. e ≡ cause)
      → IsAnswer old next assumptions limit r
  refused next learned limit cause r line exact left same refusal is =
      subst (λ l. IsAnswer old l assumptions limit r) (sym same) (answered r is)
    where
      has_next : HasNext old new assumptions limit learned.clause
      has_next = record {
        over = line.over;
        hints = learned.hints;
        follows = line.follows;
        short = line.short;
        is_new = line.is_new;
        lines_left = omega (arith, exact, left);
      }

      at : (e : AskError) → IsRefused new learned.clause e → IsAnswer old new assumptions limit (Err e)
      at TooManyLines h = (learned.clause, has_next, h)
      at TooManyLiterals h = (learned.clause, has_next, h.0, h.1)
      at NoMemory h = tt

      answered : (a : Result Answer AskError) → IsErrAnd a (λ e. e ≡ cause) → IsAnswer old new assumptions limit a
      answered (Ok x) h = absurd h
      answered (Err e) h = subst (λ f. IsAnswer old new assumptions limit (Err f)) (sym h) (at cause refusal)
