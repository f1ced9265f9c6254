-- The claim on a package, from the lines of its first question on.
use Rattle.std.proofs.Common.{◌≡◌, inl, inr, ℕ, ◌+◌, ◌-◌, ◌<◌, ◌≤◌, ◌^◌, ◌↔◌, Bool, true, false, List, [], ◌∷◌, ◌++◌}
use Rattle.std.proofs.Common.{length, replicate, refl, ap, sym, subst, ◌∙◌, arith, lit<, ⊎_elim}
use Rattle.std.specs.List.{All, Contains, list_any}
use Rattle.std.proofs.Math.ListN.{get_or-eq_default}
use Rattle.std.proofs.lemmas.Bool.{cases_lt, true≢false}
use Rattle.std.proofs.lemmas.List.{get_or-replicate, length-replicate}
use Rattle.std.proofs.lemmas.List.Elements.{All-nil, All-cons, All-head}
use Rattle.circular_buffer.specs.Buffer.{keep_last}
use Rattle.dist_clause.specs.Formula.{value_of}
use Rattle.dist_outside.specs.DeskView.{DeskView, FileGrew}
use Rattle.dist_outside.specs.declared.trouble.WorkError.{WorkError}
use Rattle.dist_outside.specs.declared.trouble.WorkError.TheVariants.{NoMemory}
use Rattle.dist_cert.specs.declared.TheConstants.{REACH}
use Rattle.dist_cert.specs.declared.records.CertKind.{CertKind}
use Rattle.dist_cert.specs.declared.records.CertRecord.{CertRecord}
use Rattle.dist_cert.specs.declared.records.CertRecord.TheVariants.{Question, NotInstallable, Unknown}
use Rattle.dist_cert.specs.declared.records.Claim.{Claim}
use Rattle.dist_cert.specs.ClaimRules.{yes, HoldsClaim}
use Rattle.dist_cert.specs.Form.{Word, record_text}
use Rattle.dist_cert.specs.Groups.{claim_count, group, installations, installed_in, is_claim, IsClosedBy}
use Rattle.dist_cert.specs.Part.{IsNextQuestion, IsQuestionOn}
use Rattle.dist_cert.specs.PartByRecordsLaws.{IsLine}
use Rattle.dist_cert.specs.Writing.{ended}
use Rattle.dist_line_write.specs.Asking.{AskerView, IsOver, question_lines}
use Rattle.dist_line_write.specs.Script.{PutMore, PutStops}
use Rattle.dist_line_write.specs.ScriptLaws.{BeginsLaw, TwiceLaw}
use Rattle.dist_line_write.specs.TrueOnesLaws.{true-ones}
use Rattle.dist_line_write.specs.Words.{true_variables}
use Rattle.dist_sweep.specs.Asking.{Holds, IsAsked, AskMore, AskStops}
use Rattle.dist_sweep.specs.Script.{Setting, matter_in}
use Rattle.dist_sweep.specs.ScriptLaws.{put-stopped, stops-after, stops-for-memory}
use Rattle.dist_strong.specs.ClaimingPrivate.{StrongClaims, StrongStops, StrongMore, StrongSuits}
use Rattle.dist_sweep.specs.Claiming.{IsSwept}
use Rattle.dist_strong.specs.Group.{GroupView, new_group}
use Rattle.dist_strong.specs.SettlingPrivate.{Fits, IsGroupAt, IsSettling, SettleMore, SettleStops, without}
use Rattle.dist_strong.specs.SettlingPrivate.{IsOfStrong}
use Rattle.dist_sweep.specs.Window.{WindowView}
use Rattle.dist_sweep.specs.declared.asking.Reply.{Reply}
use Rattle.dist_sweep.specs.ClaimLinesLaws.{uninstallable-line, unknown-line, put-claimed, claim-after}
use Rattle.dist_sweep.specs.ClaimLinesLaws.{uninstallable-kind, unknown-kind}
use Rattle.dist_sweep.specs.QuestionLinesLaws.{question-claims, reply-line, AreAsked, closed-here, count-after}
use Rattle.dist_sweep.specs.QuestionLinesLaws.{in-group-after}
use Rattle.dist_sweep.specs.WindowLaws.{window-more, window-same}
use Rattle.dist_strong.proofs.GroupSteps.{question-after}
use Rattle.dist_strong.proofs.SettleSteps.{added-some}
use Rattle.dist_cert.specs.declared.records.Claim.TheVariants as claims
use Rattle.dist_sweep.specs.declared.asking.Reply.TheVariants as replies

-- ---- the question

pub alone-over : (n p : ℕ) → 1 ≤ p → p ≤ n → IsOver n (yes p ∷ [])
alone-over n p from upto = record {
  some = omega arith;
  form = (All-cons (λ l. 1 ≤ l.0) (yes p) [] from (All-nil (λ l. 1 ≤ l.0)), λ i j d before within. absurd (omega (arith, before, within)));
  upto = All-cons (λ l. l.0 ≤ n) (yes p) [] upto (All-nil (λ l. l.0 ≤ n));
}

nothing-in : (step : CertRecord) → ¬ Contains [] step
nothing-in step there = omega (arith, there.1)

alone-next : (g : Setting) (before : List CertRecord) (a : AskerView) (w : WindowView) (p : ℕ) → IsSwept g before a w → p ≡ claim_count before + 1
    → StrongSuits a w p
    → IsOfStrong g → IsNextQuestion (matter_in g) g.header before (yes p ∷ [])
alone-next g before a w p swept is suits strong = record {
  claim_left = omega (arith, is, suits.upto, suits.variables, swept.at.log.variables, strong.same);
  on_next = subst (λ (k : CertKind). IsQuestionOn (matter_in g) k (claim_count before + 1) (yes p ∷ [])) (sym strong.kind)
      (inl (ap (λ (n : ℕ). yes n ∷ []) is));
  not_twice = λ there. nothing-in (Question (yes p ∷ [])) (subst (λ (ls : List CertRecord). Contains ls (Question (yes p ∷ []))) swept.no_group there);
}

alone-asked : (old new : DeskView) (a b : AskerView) (w : WindowView) (p : ℕ) (words : List Word) (reply told : Reply) → words ≡ yes p ∷ [] → reply ≡ told
    → AskMore old new a b words reply → StrongSuits a w p
    → (g : Setting) (before : List CertRecord) → IsSwept g before a w → p ≡ claim_count before + 1 → IsOfStrong g → IsAsked g before (yes p ∷ [])
    old new b told
alone-asked old new a b w p words reply told are is more suits g before swept next strong =
    subst (λ (r : Reply). IsAsked g before (yes p ∷ []) old new b r) is
    (subst (λ ws. IsAsked g before ws old new b reply) are
    (more g before swept.at (subst (λ ws. IsNextQuestion (matter_in g) g.header before ws) (sym are) (alone-next g before a w p swept next suits strong))))

-- its lines, of which the last installs some packages or none
alone-lines : (g : Setting) (before : List CertRecord) (p : ℕ) (old new : DeskView) (b : AskerView) (reply : Reply) (installed : List (List ℕ))
    → (asked : IsAsked g before (yes p ∷ []) old new b reply) → installed_in asked.answer ≡ installed
    → AreAsked before (yes p ∷ []) installed (before ++ question_lines (yes p ∷ []) asked.between asked.answer)
alone-lines g before p old new b reply installed asked installs = record {
  between = asked.between;
  answer = asked.answer;
  only_derived = asked.only_derived;
  answer_line = reply-line reply asked.answer asked.is_answer;
  installs = installs;
  is = refl;
}

-- ---- a claim behind more lines

question-none : (g : Setting) (before : List CertRecord) (p : ℕ) (old new : DeskView) (b : AskerView) (reply : Reply)
    → (asked : IsAsked g before (yes p ∷ []) old new b reply)
    → list_any is_claim (question_lines (yes p ∷ []) asked.between asked.answer) ≡ false
question-none g before p old new b reply asked = question-claims (yes p ∷ []) asked.between asked.answer asked.only_derived
    (reply-line reply asked.answer asked.is_answer)

-- ---- no installation

uninstallable-next : (g : Setting) (before : List CertRecord) (p : ℕ) (old new : DeskView) (a b : AskerView) (w : WindowView) → a.log.variables < 2 ^ 32
    → StrongSuits a w p → IsSwept g before a w → p ≡ claim_count before + 1 → IsOfStrong g
    → (asked : IsAsked g before (yes p ∷ []) old new b replies.Refuted)
    → IsLine (matter_in g) g.header (before ++ question_lines (yes p ∷ []) asked.between asked.answer) (NotInstallable p)
unfolding alone-lines
uninstallable-next g before p old new a b w fits suits swept next strong asked =
    let lines = alone-lines g before p old new b replies.Refuted [] asked (ap installed_in asked.is_answer.1) in
    uninstallable-line g (before ++ question_lines (yes p ∷ []) asked.between asked.answer) p asked.at.log.not_ended
    (omega (arith, fits, swept.at.log.variables, strong.same))
    (next ∙ ap (λ (n : ℕ). n + 1) (sym (count-after before (yes p ∷ []) [] _ lines))) (omega (
      arith,
      suits.upto,
      suits.variables,
      swept.at.log.variables,
      strong.same,
    ))
    (subst (λ (k : CertKind). HoldsClaim (matter_in g) k (before ++ question_lines (yes p ∷ []) asked.between asked.answer) (NotInstallable p))
    (sym strong.kind) (
      asked.is_answer.0,
      subst (λ s. IsClosedBy (group (before ++ question_lines (yes p ∷ []) asked.between asked.answer)) (yes p ∷ []) s) asked.is_answer.1
          (closed-here before (yes p ∷ []) [] _ lines),
    ))

unknown-next : (g : Setting) (before : List CertRecord) (p : ℕ) (old new : DeskView) (a b : AskerView) (w : WindowView) → a.log.variables < 2 ^ 32
    → StrongSuits a w p
    → IsSwept g before a w → p ≡ claim_count before + 1 → IsOfStrong g
    → (asked : IsAsked g before (yes p ∷ []) old new b replies.Undecided)
    → IsLine (matter_in g) g.header (before ++ question_lines (yes p ∷ []) asked.between asked.answer) (Unknown p)
unfolding alone-lines
unknown-next g before p old new a b w fits suits swept next strong asked =
    let lines = alone-lines g before p old new b replies.Undecided [] asked (ap installed_in asked.is_answer) in
    unknown-line g (before ++ question_lines (yes p ∷ []) asked.between asked.answer) p asked.at.log.not_ended
    (omega (arith, fits, swept.at.log.variables, strong.same))
    (next ∙ ap (λ (n : ℕ). n + 1) (sym (count-after before (yes p ∷ []) [] _ lines))) (omega (
      arith,
      suits.upto,
      suits.variables,
      swept.at.log.variables,
      strong.same,
    ))
    (subst (λ (k : CertKind). HoldsClaim (matter_in g) k (before ++ question_lines (yes p ∷ []) asked.between asked.answer) (Unknown p)) (sym strong.kind)
    (subst (λ s. IsClosedBy (group (before ++ question_lines (yes p ∷ []) asked.between asked.answer)) (yes p ∷ []) s) asked.is_answer
    (closed-here before (yes p ∷ []) [] _ lines)))

pub claimed-uninstallable : TwiceLaw → (old mid new : DeskView) (a b d : AskerView) (w : WindowView) (p : ℕ) (words : List Word) (reply : Reply)
    → a.log.variables < 2 ^ 32 → words ≡ yes p ∷ [] → reply ≡ replies.Refuted
    → AskMore old mid a b words reply → StrongSuits a w p → d ≡ record b { writer = d.writer } → FileGrew (ended (record_text (NotInstallable p))) mid new
    → PutMore b.writer d.writer (NotInstallable p) → StrongClaims p old new a d w w claims.Uninstallable
claimed-uninstallable twice old mid new a b d w p words reply fits are is more suits rest grew put g before may strong =
    let asked = alone-asked old mid a b w p words reply replies.Refuted are is more suits g before may.swept may.next strong in
    let lines = alone-lines g before p old mid b replies.Refuted [] asked (ap installed_in asked.is_answer.1) in
    claim-after twice g before (question_lines (yes p ∷ []) asked.between asked.answer) old mid new d w (λ lines. IsOfStrong g)
    claims.Uninstallable asked.grew
    (question-none g before p old mid b replies.Refuted asked)
    (put-claimed g (before ++ question_lines (yes p ∷ []) asked.between asked.answer) mid new b d w (λ lines. IsOfStrong g) (NotInstallable p)
    claims.Uninstallable asked.at
    (window-same before _ (yes p ∷ []) w may.swept.window lines)
    (uninstallable-kind p) (uninstallable-next g before p old mid a b w fits suits may.swept may.next strong asked) refl rest grew put strong)

pub claimed-unknown : TwiceLaw → (old mid new : DeskView) (a b d : AskerView) (w : WindowView) (p : ℕ) (words : List Word) (reply : Reply)
    → a.log.variables < 2 ^ 32 → words ≡ yes p ∷ [] → reply ≡ replies.Undecided
    → AskMore old mid a b words reply → StrongSuits a w p → d ≡ record b { writer = d.writer } → FileGrew (ended (record_text (Unknown p))) mid new
    → PutMore b.writer d.writer (Unknown p) → StrongClaims p old new a d w w claims.Unknown
claimed-unknown twice old mid new a b d w p words reply fits are is more suits rest grew put g before may strong =
    let asked = alone-asked old mid a b w p words reply replies.Undecided are is more suits g before may.swept may.next strong in
    let lines = alone-lines g before p old mid b replies.Undecided [] asked (ap installed_in asked.is_answer) in
    claim-after twice g before (question_lines (yes p ∷ []) asked.between asked.answer) old mid new d w (λ lines. IsOfStrong g) claims.Unknown asked.grew
    (question-none g before p old mid b replies.Undecided asked)
    (put-claimed g (before ++ question_lines (yes p ∷ []) asked.between asked.answer) mid new b d w (λ lines. IsOfStrong g) (Unknown p)
    claims.Unknown asked.at
    (window-same before _ (yes p ∷ []) w may.swept.window lines)
    (unknown-kind p) (unknown-next g before p old mid a b w fits suits may.swept may.next strong asked) refl rest grew put strong)

-- ---- where it stops

pub claim-memory : BeginsLaw → (p : ℕ) (old : DeskView) (a : AskerView) (w : WindowView) → StrongStops p old old a w NoMemory
claim-memory begins p old a w g before may strong = stops-for-memory g before a.writer old old may.swept.at.writer (begins old)

pub claim-ask-stops : (p : ℕ) (old new : DeskView) (a : AskerView) (w : WindowView) (words : List Word) (error : WorkError) → words ≡ yes p ∷ []
    → StrongSuits a w p
    → AskStops a words old new error → StrongStops p old new a w error
claim-ask-stops p old new a w words error are suits stops g before may strong =
    stops g before may.swept.at (subst (λ ws. IsNextQuestion (matter_in g) g.header before ws) (sym are)
    (alone-next g before a w p may.swept may.next suits strong))

pub uninstallable-stops : TwiceLaw → (old mid new : DeskView) (a b : AskerView) (w : WindowView) (p : ℕ) (words : List Word) (reply : Reply)
    (error : WorkError)
    → a.log.variables < 2 ^ 32 → words ≡ yes p ∷ [] → reply ≡ replies.Refuted
    → AskMore old mid a b words reply → StrongSuits a w p → PutStops b.writer (NotInstallable p) mid new error → StrongStops p old new a w error
uninstallable-stops twice old mid new a b w p words reply error fits are is more suits stops g before may strong =
    let asked = alone-asked old mid a b w p words reply replies.Refuted are is more suits g before may.swept may.next strong in
    stops-after twice g before (question_lines (yes p ∷ []) asked.between asked.answer) old mid new error asked.grew
    (put-stopped g (before ++ question_lines (yes p ∷ []) asked.between asked.answer) (NotInstallable p) b.writer mid new error stops asked.at.writer
    (uninstallable-next g before p old mid a b w fits suits may.swept may.next strong asked))

pub unknown-stops : TwiceLaw → (old mid new : DeskView) (a b : AskerView) (w : WindowView) (p : ℕ) (words : List Word) (reply : Reply) (error : WorkError)
    → a.log.variables < 2 ^ 32 → words ≡ yes p ∷ [] → reply ≡ replies.Undecided
    → AskMore old mid a b words reply → StrongSuits a w p → PutStops b.writer (Unknown p) mid new error → StrongStops p old new a w error
unknown-stops twice old mid new a b w p words reply error fits are is more suits stops g before may strong =
    let asked = alone-asked old mid a b w p words reply replies.Undecided are is more suits g before may.swept may.next strong in
    stops-after twice g before (question_lines (yes p ∷ []) asked.between asked.answer) old mid new error asked.grew
    (put-stopped g (before ++ question_lines (yes p ∷ []) asked.between asked.answer) (Unknown p) b.writer mid new error stops asked.at.writer
    (unknown-next g before p old mid a b w fits suits may.swept may.next strong asked))

-- ---- the group behind the first installation

none-true : (n q : ℕ) → value_of (replicate n false) q ≡ false
none-true n q = elim (cases_lt (q - 1) n) [
  | inl within ↦ get_or-replicate n (q - 1) false false within
  | inr past ↦ get_or-eq_default (replicate n false) false (omega (arith, length-replicate n false, past))
]

one-word : List Word → List Word
one-word [] = []
one-word (v ∷ words) = words

words-of : CertRecord → List Word
words-of (Question words) = words
words-of step = []

not-alone : (p r : ℕ) → Question (yes p ∷ []) ≡ Question (without p r) → ⊥
unfolding one-word words-of
not-alone p r e = let n = ap (λ (s : CertRecord). length (words-of s)) e in omega (arith, n)

pub first-step : (g : Setting) (before after : List CertRecord) (n p : ℕ) (values : List Bool) → group before ≡ []
    → AreAsked before (yes p ∷ []) (true_variables values ∷ []) after → p ≡ claim_count before + 1 → 1 ≤ p → p ≤ n
    → n ≡ (matter_in g).packages → length values ≡ n → value_of values p ≡ true → IsGroupAt g after (new_group p n values)
first-step g before after n p values none asked next from upto variables size has = record {
  claimed = next ∙ ap (λ (k : ℕ). k + 1) (sym (count-after before (yes p ∷ []) (true_variables values ∷ []) after asked));
  from_one = from;
  upto = upto;
  variables = variables;
  sizes = record { common = size; refuted = length-replicate n false; undecided = length-replicate n false };
  some = omega (arith, ap length inst);
  each = subst (λ (ms : List (List ℕ)). All (λ m. Contains m p) ms) (sym inst) (only p ((true-ones values p from (omega (arith, upto, size))).1 has));
  common = λ q low high. subst (λ (ms : List (List ℕ)). (value_of values q ≡ true) ↔ All (λ m. Contains m q) ms) (sym inst) (
    (λ holds. only q ((true-ones values q low (omega (arith, high, size))).1 holds)),
    (λ all. (true-ones values q low (omega (arith, high, size))).0 (All-head (λ m. Contains m q) (true_variables values) [] all)),
  );
  refuted = λ q low high holds. absurd (true≢false (sym holds ∙ none-true n q));
  undecided = λ q low high holds. absurd (true≢false (sym holds ∙ none-true n q));
  apart = λ q low holds. absurd (true≢false (sym holds ∙ none-true n q));
  asked = λ q low high there. absurd (⊎_elim
      (λ old. nothing-in (Question (without p q)) (subst (λ (ls : List CertRecord). Contains ls (Question (without p q))) none old))
      (λ same. not-alone p q same)
      (question-after before (yes p ∷ []) (without p q) (true_variables values ∷ []) after asked there));
}
  where
    inst : installations (group after) ≡ true_variables values ∷ []
    inst = in-group-after before (yes p ∷ []) (true_variables values ∷ []) after asked
        ∙ ap (λ (ls : List CertRecord). installations ls ++ true_variables values ∷ []) none

    only : (q : ℕ) → Contains (true_variables values) q → All (λ m. Contains m q) (true_variables values ∷ [])
    only q there = All-cons (λ m. Contains m q) (true_variables values) [] there (All-nil (λ m. Contains m q))

-- what is kept behind it
abbrev pub with-first : WindowView → List Bool → WindowView
with-first w values = record w { kept = keep_last REACH (w.kept ++ values ∷ []); count = w.count + 1 }

opened : (g : Setting) (before : List CertRecord) (old new : DeskView) (a b : AskerView) (w : WindowView) (p : ℕ) (values : List Bool)
    → IsSwept g before a w
    → p ≡ claim_count before + 1 → StrongSuits a w p → IsOfStrong g
    → (asked : IsAsked g before (yes p ∷ []) old new b (replies.Found values)) → Holds w.variables (yes p ∷ []) (replies.Found values)
    → IsSettling g (before ++ question_lines (yes p ∷ []) asked.between asked.answer) b (with-first w values) (new_group p w.variables values)
opened g before old new a b w p values swept next suits strong asked holds =
    let lines = alone-lines g before p old new b (replies.Found values) (true_variables values ∷ []) asked (ap installed_in asked.is_answer) in
    record {
      of_strong = strong;
      at = asked.at;
      window = window-more before _ (yes p ∷ []) w values swept.window lines holds.0;
      group_at = first-step g before _ w.variables p values swept.no_group lines next suits.from_one suits.upto (sym suits.variables
          ∙ swept.at.log.variables ∙ strong.same)
          holds.0
          (holds.1 0 (record { variable = p; positive = true }) (lit< tt));
    }

pub claimed-found : TwiceLaw → (old mid new : DeskView) (a b d : AskerView) (w v u : WindowView) (kept : GroupView) (p : ℕ) (values : List Bool)
    (words : List Word) (reply : Reply) (claim : Claim) → words ≡ yes p ∷ []
    → reply ≡ replies.Found values → AskMore old mid a b words reply → StrongSuits a w p → Holds w.variables (yes p ∷ []) (replies.Found values)
    → kept ≡ new_group p w.variables values → v ≡ with-first w values
    → StrongMore mid new b d v u kept claim → StrongClaims p old new a d w u claim
claimed-found twice old mid new a b d w v u kept p values words reply claim are is more suits holds group_is window_is made g before may strong =
    let asked = alone-asked old mid a b w p words reply (replies.Found values) are is more suits g before may.swept may.next strong in
    let settling = subst (λ (x : WindowView). IsSettling g (before ++ question_lines (yes p ∷ []) asked.between asked.answer) b x kept) (sym window_is)
    (subst (λ (k : GroupView). IsSettling g (before ++ question_lines (yes p ∷ []) asked.between asked.answer) b (with-first w values) k) (sym group_is)
    (opened g before old mid a b w p values may.swept may.next suits strong asked holds)) in
    claim-after twice g before (question_lines (yes p ∷ []) asked.between asked.answer) old mid new d u (λ lines. IsOfStrong g) claim asked.grew
    (question-none g before p old mid b (replies.Found values) asked)
    (made g (before ++ question_lines (yes p ∷ []) asked.between asked.answer) settling)

pub group-stops : TwiceLaw → (old mid new : DeskView) (a b : AskerView) (w v : WindowView) (kept : GroupView) (p : ℕ) (values : List Bool)
    (words : List Word)
    (reply : Reply) (error : WorkError) → words ≡ yes p ∷ []
    → reply ≡ replies.Found values → AskMore old mid a b words reply → StrongSuits a w p → Holds w.variables (yes p ∷ []) (replies.Found values)
    → kept ≡ new_group p w.variables values → v ≡ with-first w values
    → SettleStops mid new b v kept error → StrongStops p old new a w error
group-stops twice old mid new a b w v kept p values words reply error are is more suits holds group_is window_is stops g before may strong =
    let asked = alone-asked old mid a b w p words reply (replies.Found values) are is more suits g before may.swept may.next strong in
    let settling = subst (λ (x : WindowView). IsSettling g (before ++ question_lines (yes p ∷ []) asked.between asked.answer) b x kept) (sym window_is)
    (subst (λ (k : GroupView). IsSettling g (before ++ question_lines (yes p ∷ []) asked.between asked.answer) b (with-first w values) k) (sym group_is)
    (opened g before old mid a b w p values may.swept may.next suits strong asked holds)) in
    stops-after twice g before (question_lines (yes p ∷ []) asked.between asked.answer) old mid new error asked.grew
    (stops g (before ++ question_lines (yes p ∷ []) asked.between asked.answer) settling)

-- want of memory for the group
pub group-memory : BeginsLaw → TwiceLaw → (old mid : DeskView) (a b : AskerView) (w : WindowView) (p : ℕ) (words : List Word) (reply : Reply)
    → words ≡ yes p ∷ [] → AskMore old mid a b words reply → StrongSuits a w p
    → StrongStops p old mid a w NoMemory
group-memory begins twice old mid a b w p words reply are more suits g before may strong =
    let asked = alone-asked old mid a b w p words reply reply are refl more suits g before may.swept may.next strong in
    stops-after twice g before (question_lines (yes p ∷ []) asked.between asked.answer) old mid mid NoMemory asked.grew
    (stops-for-memory g (before ++ question_lines (yes p ∷ []) asked.between asked.answer) b.writer mid mid asked.at.writer (begins mid))

-- ---- what the group is given

pub new-fits : (a b : AskerView) (w v : WindowView) (kept : GroupView) (p : ℕ) (values : List Bool) → StrongSuits a w p → b.limit ≡ a.limit
    → b.log.variables ≡ a.log.variables → Holds w.variables (yes p ∷ []) (replies.Found values)
    → kept ≡ new_group p w.variables values → v ≡ with-first w values → Fits b v kept
new-fits a b w v kept p values suits limit variables holds group_is window_is = subst (λ (k : GroupView). Fits b v k) (sym group_is) (record {
  limit = omega (arith, limit, suits.limit);
  variables = variables ∙ suits.variables;
  window = ap (λ (x : WindowView). x.variables) window_is;
  from_one = suits.from_one;
  upto = suits.upto;
  sizes = record { common = holds.0; refuted = length-replicate w.variables false; undecided = length-replicate w.variables false };
  some = added-some w v p values window_is (holds.1 0 (record { variable = p; positive = true }) (lit< tt));
})

-- ---- the claim of a group

pub group-claimed : TwiceLaw → (old mid new : DeskView) (a b d : AskerView) (w v : WindowView) (kept later : GroupView) (claim : Claim)
    → SettleMore old mid a b w v kept later → StrongMore mid new b d v v later claim
    → StrongMore old new a d w v kept claim
group-claimed twice old mid new a b d w v kept later claim one two g before settling =
    let x = one g before settling in claim-after twice g before x.added old mid new d v (λ lines. IsOfStrong g) claim x.grew x.no_claims (two g (before
    ++ x.added) x.settling)
