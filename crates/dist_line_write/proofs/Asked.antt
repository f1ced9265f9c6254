-- A question with all its lines.
use Rattle.std.proofs.Common.{◌≡◌, ◌≢◌, ℕ, ◌<◌, ◌≤◌, ◌^◌, ◌++◌, false, List, [], ◌∷◌, refl, ap, sym, subst, ◌∙◌, append_assoc, append-nil, arith}
use Rattle.std.proofs.Common.{Ok}
use Rattle.std.specs.List.{list_any}
use Rattle.std.proofs.lemmas.List.Elements.{All-map}
use Rattle.dist_clause.specs.Formula.{Literal, literal, IsClauseOver, IsModel, value_of}
use Rattle.dist_derive.specs.ClauseLog.{ClauseLog, inputs_of}
use Rattle.dist_outside.specs.DeskView.{DeskView, FileGrew}
use Rattle.dist_outside.specs.declared.trouble.WorkError.{WorkError}
use Rattle.dist_outside.specs.declared.trouble.WorkError.TheVariants.{NoMemory}
use Rattle.dist_solver.specs.Ask.{IsAnswer}
use Rattle.dist_solver.specs.declared.answers.Answer.{Answer}
use Rattle.dist_solver.specs.declared.answers.Answer.TheVariants as answers
use Rattle.dist_cert.specs.declared.records.CertRecord.{CertRecord}
use Rattle.dist_cert.specs.declared.records.CertRecord.TheVariants.{Question}
use Rattle.dist_cert.specs.Form.{Word, record_text, is_end}
use Rattle.dist_cert.specs.Groups.{clause_of, derived, derived_in}
use Rattle.dist_cert.specs.FileLines.{lines_text}
use Rattle.dist_cert.specs.Writing.{WriterView, ended}
use Rattle.dist_line_write.specs.Asking.{AskerView, Holds, IsOver, AskMore, AskStops, IsAt, IsLogAt, MayDerive, Says}
use Rattle.dist_line_write.specs.LineLaws.{keeps-same, derived-append, none-ended}
use Rattle.dist_line_write.specs.Script.{Asks, IsLine, MayAsk, OnlyThis, Script, IsWriter, PutMore, PutStops}
use Rattle.dist_line_write.specs.ScriptLaws.{line-stopped, next-join, none-asked, stops-after, stops-for-memory}
use Rattle.dist_line_write.specs.ScriptLaws.{stops-silent, BeginsLaw, TwiceLaw, lines-more, one-line}
use Rattle.dist_line_write.specs.Words.{closing_line}
use Rattle.dist_cert.specs.ListLaws.{pairs-map}
use Rattle.dist_line_write.proofs.Lines.{question-line}
use Rattle.dist_line_write.proofs.Closing.{Derives, DerivesNone, inputs-are}

pub clause-over : (n : ℕ) (words : List Word) → IsOver n words → IsClauseOver n (clause_of words)
clause-over n words over = record {
  in_range = All-map (λ l. (1 ≤ l.variable) × (l.variable ≤ n)) (λ (word : Word). literal word.0 word.1) words
      (λ k d within. (over.form.0 k d within, over.upto k d within));
  distinct = pairs-map (λ l m. l.variable ≢ m.variable) (λ (word : Word). literal word.0 word.1) words over.form.1;
}

-- the same view
pub at-view : (g : Script) (before : List CertRecord) (t s : AskerView) → t ≡ s → IsAt g before s → IsAt g before t
at-view g before t s is at = subst (λ v. IsAt g before v) (sym is) at

-- the own line of the question may come next
pub question-next : (g : Script) (before : List CertRecord) (question : List Word) (t : AskerView) → t.log.variables < 2 ^ 32 → IsOver t.log.variables question
    → IsAt g before t
    → IsLine g before (Question question)
question-next g before question t fits over at =
    question-line g before question (omega (arith, fits, at.log.variables)) at.log.not_ended
    (subst (λ n. IsOver n question) at.log.variables over)

may-derive : (g : Script) (before : List CertRecord) (question : List Word) (t : AskerView) (w : WriterView) → t.log.variables < 2 ^ 32
    → IsOver t.log.variables question → PutMore t.writer w (Question question)
    → IsAt g before t → MayDerive g before question t.log t.limit w
may-derive g before question t w fits over more at =
    record {
      log_at = at.log;
      writer = more g before at.writer
          (keeps-same g.limits before (Question question) refl at.writer.written.kept);
    }

-- ---- where it stops

-- the line of an answer asks nothing
closing-asks : (asks : Asks) (before : List CertRecord) (answer : Answer) → MayAsk asks before (closing_line answer)
closing-asks asks before (answers.Found values) = tt
closing-asks asks before (answers.Refuted hints) = tt
closing-asks asks before answers.Undecided = tt

pub stops-before : BeginsLaw → (s : AskerView) (question : List Word) (first : DeskView) → AskStops s question first first NoMemory
stops-before begins s question first g before at =
    stops-for-memory g (OnlyThis before (Question question)) before s.writer first first at.writer (begins first)

pub stops-at-question : (t s : AskerView) (question : List Word) (first last : DeskView) (error : WorkError) → t ≡ s → t.log.variables < 2 ^ 32
    → IsOver t.log.variables question
    → PutStops t.writer (Question question) first last error → AskStops s question first last error
stops-at-question t s question first last error is fits over stops g before at =
    let here = at-view g before t s is at in
    line-stopped g (OnlyThis before (Question question)) before (Question question) t.writer first last error here.writer
    (question-next g before question t fits over here, (refl, refl)) (stops g before here.writer)

pub stops-while-derived : TwiceLaw → (t s : AskerView) (question : List Word) (first mid last : DeskView) (w : WriterView) (error : WorkError) → t ≡ s
    → t.log.variables < 2 ^ 32 → IsOver t.log.variables question
    → FileGrew (ended (record_text (Question question))) first mid → PutMore t.writer w (Question question)
    → DerivesNone t.log (clause_of question) t.limit mid last w error → AskStops s question first last error
stops-while-derived twice t s question first mid last w error is fits over grew more none g before at =
    let here = at-view g before t s is at in
    let asks : Asks = OnlyThis before (Question question) in
    stops-after twice g asks before (Question question ∷ []) first mid last error
    (subst (λ bytes. FileGrew bytes first mid) (sym (one-line (Question question))) grew) ((refl, refl), tt)
    (question-next g before question t fits over here, tt)
    (stops-silent g asks (before ++ Question question ∷ []) mid last error
    (none g before question refl (may-derive g before question t w fits over more here)))

pub stops-at-answer : TwiceLaw → (t s : AskerView) (after : ClauseLog) (question : List Word) (first mid later last : DeskView) (w behind : WriterView)
    (answer : Answer) (error : WorkError) → t ≡ s → t.log.variables < 2 ^ 32
    → IsOver t.log.variables question → FileGrew (ended (record_text (Question question))) first mid → PutMore t.writer w (Question question)
    → Derives t.log after (clause_of question) t.limit mid later w behind answer → PutStops behind (closing_line answer) later last error
    → AskStops s question first last error
stops-at-answer twice t s after question first mid later last w behind answer error is fits over grew more derives stops g before at =
    let here = at-view g before t s is at in
    let d = derives g before question refl (may-derive g before question t w fits over more here) in
    let asks : Asks = OnlyThis before (Question question) in
    let lines : List CertRecord = before ++ Question question ∷ d.between in
    stops-after twice g asks before (Question question ∷ d.between) first later last error
    (twice (ended (record_text (Question question))) (lines_text d.between) first mid later grew d.grew)
    ((refl, refl), none-asked asks (before ++ Question question ∷ []) d.between d.only_derived)
    (question-next g before question t fits over here, d.next)
    (line-stopped g asks lines (closing_line answer) behind later last error d.writer
    (d.closing, closing-asks asks lines answer) (stops g lines d.writer))

-- ---- what was asked

-- what an answer says of the log holds of the clauses that it began with
says : (g : Script) (before : List CertRecord) (question : List Word) (old new : ClauseLog) (limit : ℕ) (answer : Answer) → IsLogAt g before old limit
    → inputs_of new ≡ inputs_of old → IsAnswer old new (clause_of question) limit (Ok answer) → Says g question answer
says g before question old new limit (answers.Found values) at same answered = (
  answered.variables ∙ at.variables,
  subst (IsModel (value_of values)) (inputs-are g before old limit at) answered.model,
  answered.assumed,
)
says g before question old new limit (answers.Refuted hints) at same answered =
    λ value model. answered.no_model value (subst (IsModel value) (sym (same ∙ inputs-are g before old limit at)) model)
says g before question old new limit answers.Undecided at same answered = tt

pub answer-holds : (n : ℕ) (question : List Word) (old new : ClauseLog) (limit : ℕ) (answer : Answer) → old.variables ≡ n
    → IsAnswer old new (clause_of question) limit (Ok answer) → Holds n question answer
answer-holds n question old new limit (answers.Found values) size answered = (answered.variables ∙ size, answered.assumed)
answer-holds n question old new limit (answers.Refuted hints) size answered = tt
answer-holds n question old new limit answers.Undecided size answered = tt

-- the line of an answer is no derived line and no end
no-clause : (answer : Answer) → derived_in (closing_line answer) ≡ []
no-clause (answers.Found values) = refl
no-clause (answers.Refuted hints) = refl
no-clause answers.Undecided = refl

no-end : (answer : Answer) → list_any is_end (closing_line answer ∷ []) ≡ false
no-end (answers.Found values) = refl
no-end (answers.Refuted hints) = refl
no-end answers.Undecided = refl

log-closed : (g : Script) (before : List CertRecord) (log : ClauseLog) (limit : ℕ) (answer : Answer) → IsLogAt g before log limit
    → IsLogAt g (before ++ closing_line answer ∷ []) log limit
log-closed g before log limit answer at = record {
  limit_is = at.limit_is;
  clauses = at.clauses ∙ ap (λ (cs : List (List Literal)). g.inputs ++ cs)
      (sym (derived-append before (closing_line answer ∷ []) ∙ ap (λ (cs : List (List Literal)). derived before ++ (cs ++ [])) (no-clause answer)
      ∙ append-nil (derived before)));
  inputs = at.inputs;
  variables = at.variables;
  line_limit = at.line_limit;
  line_literal_limit = at.line_literal_limit;
  not_ended = none-ended before (closing_line answer ∷ []) at.not_ended (no-end answer);
}

pub asked : TwiceLaw → (t s : AskerView) (after : ClauseLog) (question : List Word) (first mid later last : DeskView) (w behind ends : WriterView)
    (answer : Answer) → t ≡ s → t.log.variables < 2 ^ 32
    → IsOver t.log.variables question → FileGrew (ended (record_text (Question question))) first mid → PutMore t.writer w (Question question)
    → Derives t.log after (clause_of question) t.limit mid later w behind answer → FileGrew (ended (record_text (closing_line answer))) later last
    → PutMore behind ends (closing_line answer)
    → AskMore first last s (record { log = after; writer = ends; limit = t.limit }) question answer
asked twice t s after question first mid later last w behind ends answer is fits over grew more derives closed put g before at =
    let here = at-view g before t s is at in
    let d = derives g before question refl (may-derive g before question t w fits over more here) in
    let place = append_assoc before (Question question ∷ d.between) (closing_line answer ∷ []) in
    let bytes = ap (λ (text : List ℕ). ended (record_text (Question question)) ++ text)
    (sym (lines-more d.between (closing_line answer ∷ []) ∙ ap (λ (text : List ℕ). lines_text d.between ++ text) (one-line (closing_line answer)))) in
    record {
      between = d.between;
      only_derived = d.only_derived;
      grew = subst (λ text. FileGrew text first last) bytes (twice (ended (record_text (Question question)))
          (lines_text d.between ++ ended (record_text (closing_line answer))) first mid last grew
          (twice (lines_text d.between) (ended (record_text (closing_line answer))) mid later last d.grew closed));
      next = (
        question-next g before question t fits over here,
        next-join g (before ++ Question question ∷ []) d.between (closing_line answer ∷ []) d.next
            (subst (λ b. IsLine g b (closing_line answer)) (sym (append_assoc before (Question question ∷ []) d.between)) d.closing, tt),
      );
      at = record {
        log = subst (λ ls. IsLogAt g ls after t.limit) place (log-closed g (before ++ Question question ∷ d.between) after t.limit answer d.log_at);
        writer = subst (λ ls. IsWriter g ls ends) place (put g (before ++ Question question ∷ d.between) d.writer
            (keeps-same g.limits (before ++ Question question ∷ d.between) (closing_line answer) (no-clause answer) d.writer.written.kept));
      };
      says = says g before question t.log after t.limit answer here.log
          (inputs-are g (before ++ Question question ∷ d.between) after t.limit d.log_at ∙ sym (inputs-are g before t.log t.limit here.log)) d.answered;
    }
