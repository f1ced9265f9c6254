-- A question that given hints refute, with nothing derived.
use Rattle.std.proofs.Common.{◌≡◌, ◌≢◌, ℕ, ◌<◌, ◌≤◌, ◌^◌, ◌++◌, Bool, false, true, not, List, [], ◌∷◌, length, map, refl, ap, sym, subst, ◌∙◌}
use Rattle.std.proofs.Common.{append-nil, arith}
use Rattle.std.specs.List.{All}
use Rattle.std.specs.Prelude.{◌↔◌, IsTrue}
use Rattle.std.proofs.lemmas.List.Elements.{All-map, All-nil}
use Rattle.dist_clause.specs.Formula.{Literal, IsClauseOver, IsModel, IsTrueLiteral, MakesTrue, negation}
use Rattle.dist_derive.specs.ClauseLog.{ClauseLog, inputs_of}
use Rattle.dist_derive.specs.Follows.{Follows}
use Rattle.dist_outside.specs.DeskView.{DeskView}
use Rattle.dist_solver.specs.Ask.{IsRefutation}
use Rattle.dist_solver.specs.declared.answers.Answer.TheVariants as answers
use Rattle.dist_cert.specs.declared.records.CertRecord.{CertRecord}
use Rattle.dist_cert.specs.declared.records.CertRecord.TheVariants.{Question}
use Rattle.dist_cert.specs.Form.{AreFromOne, Word}
use Rattle.dist_cert.specs.Groups.{clause_of, derived}
use Rattle.dist_cert.specs.ListLaws.{pairs-map}
use Rattle.dist_cert.specs.Writing.{WriterView}
use Rattle.dist_line_write.specs.Asking.{AreRefuted, IsLogAt, is_derived}
use Rattle.dist_line_write.specs.LineLaws.{derived-append, none-ended}
use Rattle.dist_line_write.specs.Script.{Script}
use Rattle.dist_line_write.specs.ScriptLaws.{BeginsLaw}
use Rattle.dist_line_write.proofs.Closing.{Derives}
use Rattle.dist_line_write.proofs.Lines.{all-numbered, from-one, refuted-line}
use Rattle.dist_line_write.proofs.Opened.{asking-first}

-- ---- hints that refute

pub negated-over : (n : ℕ) (clause : List Literal) → IsClauseOver n clause → IsClauseOver n (map negation clause)
negated-over n clause over = record {
  in_range = All-map (λ l. (1 ≤ l.variable) × (l.variable ≤ n)) negation clause over.in_range;
  distinct = pairs-map (λ l m. l.variable ≢ m.variable) negation clause over.distinct;
}

opposite : (b : Bool) → b ≡ not b → ⊥
opposite true e = cc
opposite false e = cc

denied : (value : ℕ → Bool) (clause : List Literal) → All (IsTrueLiteral value) clause → ¬ MakesTrue value (map negation clause)
denied value clause all some =
    let none : All (λ l. ¬ IsTrueLiteral value l) (map negation clause) = All-map (λ l. ¬ IsTrueLiteral value l) negation clause
    (λ k d within here. opposite _ (sym (all k d within) ∙ here)) in
    subst (λ l. ¬ IsTrueLiteral value l) some.3 (none some.0 some.1 some.2) some.4

pub refuted-by : (log : ClauseLog) (assumed : List Literal) (hints : List ℕ) → AreRefuted log assumed hints
    → ((value : ℕ → Bool) → IsModel value (inputs_of log) → MakesTrue value (map negation assumed)) → IsRefutation log assumed hints
refuted-by log assumed hints refuted sound =
    record { follows = refuted.0; short = refuted.1; no_model = λ value model all. denied value assumed all (sound value model) }

-- hints by which something follows are numbers from 1 on
pub hints-from-one : (log : ClauseLog) (clause : List Literal) (hints : List ℕ) → Follows log.clauses clause hints → AreFromOne hints
hints-from-one log clause hints follows = from-one log.clauses hints (all-numbered log.clauses (map negation clause) hints follows)

-- the same log and the same assumptions
pub refuted-same : (log other : ClauseLog) (assumed others : List Literal) (hints : List ℕ) → log ≡ other → assumed ≡ others
    → IsRefutation log assumed hints → IsRefutation other others hints
refuted-same log other assumed others hints is are refuted =
    subst (λ (l : ClauseLog). IsRefutation l others hints) is (subst (λ (a : List Literal). IsRefutation log a hints) are refuted)

pub exactly-same : (log other : ClauseLog) (assumed others : List Literal) (hints : List ℕ) (told : Bool) → log ≡ other → assumed ≡ others
    → IsTrue told ↔ AreRefuted log assumed hints → IsTrue told ↔ AreRefuted other others hints
exactly-same log other assumed others hints told is are both =
    subst (λ (l : ClauseLog). IsTrue told ↔ AreRefuted l others hints) is
    (subst (λ (a : List Literal). IsTrue told ↔ AreRefuted log a hints) are both)

-- ---- the line that closes the question

log-opened : (g : Script) (before : List CertRecord) (question : List Word) (log : ClauseLog) (limit : ℕ) → IsLogAt g before log limit
    → IsLogAt g (before ++ Question question ∷ []) log limit
log-opened g before question log limit at = record {
  limit_is = at.limit_is;
  clauses = at.clauses ∙ ap (λ (cs : List (List Literal)). g.inputs ++ cs)
      (sym (derived-append before (Question question ∷ []) ∙ append-nil (derived before)));
  inputs = at.inputs;
  variables = at.variables;
  line_limit = at.line_limit;
  line_literal_limit = at.line_literal_limit;
  not_ended = none-ended before (Question question ∷ []) at.not_ended refl;
}

pub refutes-at-once : BeginsLaw → (log : ClauseLog) (assumptions : List Literal) (limit : ℕ) (here : DeskView) (w : WriterView) (hints : List ℕ)
    → length log.clauses < 2 ^ 32 → IsRefutation log assumptions hints → Derives log log assumptions limit here here w w (answers.Refuted hints)
refutes-at-once begins log assumptions limit here w hints fits refuted g before question is may =
    let behind = log-opened g before question log limit may.log_at in
    let by = subst (λ a. IsRefutation log a hints) (sym is) refuted in
    record {
      between = [];
      only_derived = All-nil (λ s. is_derived s ≡ true);
      grew = begins here;
      next = tt;
      log_at = behind;
      writer = may.writer;
      closing = refuted-line g (before ++ Question question ∷ []) hints question [] behind.not_ended (omega (arith, fits, ap length behind.clauses))
          (subst (λ cs. Follows cs (map negation (clause_of question)) hints) behind.clauses by.follows)
          (omega (arith, by.short, behind.variables)) (asking-first before question);
      answered = by;
    }
