-- Laws of the lines of a question behind those before: what they claim, install and close. Proofs cite them, those of
-- the crates above too.
use Rattle.std.proofs.Common.{◌≡◌, ◌≢◌, ◌⊎◌, ⊎_elim, inl, inr, ℕ, suc, ◌||◌, Bool, true, false, List, [], ◌∷◌, ◌++◌}
use Rattle.std.proofs.Common.{get_or, refl, ap, sym, ◌∙◌, append_assoc, append-nil, arith, ◌+◌, ◌-◌, subst}
use Rattle.std.specs.List.{AllPass, Contains, list_any}
use Rattle.std.proofs.lemmas.Bool.{or_parts, true≢false, false≢true}
use Rattle.std.proofs.lemmas.Grind.{flat_map-append}
use Rattle.std.proofs.lemmas.List.Elements.{All-head, All-tail}
use Rattle.dist_cert.specs.ListLaws.{contains-cases}
use Rattle.dist_cert.specs.declared.records.CertRecord.{CertRecord}
use Rattle.dist_cert.specs.declared.records.CertRecord.TheVariants.{Question, Derived, Refuted, Installation}
use Rattle.dist_cert.specs.declared.records.CertRecord.TheVariants.{Undecided, End}
use Rattle.dist_cert.specs.declared.records.Claim.{Claim}
use Rattle.dist_cert.specs.Accepted.{claim_in, claims_in}
use Rattle.dist_cert.specs.Form.{Word}
use Rattle.dist_cert.specs.Groups.{installations, installed_in, is_claim, leaves_open, IsClosedBy, claim_count, group}
use Rattle.dist_cert.specs.GroupLaws.{installations-append, closed-more, count-append, group-append}
use Rattle.dist_line_write.specs.Asking.{is_derived, question_lines}
use Rattle.dist_line_write.specs.Words.{true_variables}
use Rattle.dist_sweep.specs.Asking.{IsReplyLine}
use Rattle.dist_sweep.specs.declared.asking.Reply.{Reply}
use Rattle.dist_sweep.specs.declared.asking.Reply.TheVariants as replies

pub derived-opens : (step : CertRecord) → is_derived step ≡ true → leaves_open step ≡ true
derived-opens (Derived literals hints) is = refl
derived-opens step is = absurd (false≢true is)

pub derived-claims : (step : CertRecord) → is_derived step ≡ true → is_claim step ≡ false
derived-claims (Derived literals hints) is = refl
derived-claims step is = absurd (false≢true is)

pub derived-installs : (step : CertRecord) → is_derived step ≡ true → installed_in step ≡ []
derived-installs (Derived literals hints) is = refl
derived-installs step is = absurd (false≢true is)

pub derived-asks : (step : CertRecord) (question : List Word) → is_derived step ≡ true → step ≢ Question question
derived-asks (Derived literals hints) question is e = cc
derived-asks step question is e = absurd (false≢true is)

pub all-open : (lines : List CertRecord) → AllPass is_derived lines → AllPass leaves_open lines
all-open lines all k d within = derived-opens (get_or lines k d) (all k d within)

pub none-claims : (lines : List CertRecord) → AllPass is_derived lines → list_any is_claim lines ≡ false
none-claims [] all = refl
none-claims (x ∷ lines) all =
    ap (λ (b : Bool). b || list_any is_claim lines) (derived-claims x (All-head (λ s. is_derived s ≡ true)
    x lines all))
    ∙ none-claims lines (All-tail (λ s. is_derived s ≡ true) x lines all)

pub none-installs : (lines : List CertRecord) → AllPass is_derived lines → installations lines ≡ []
none-installs [] all = refl
none-installs (x ∷ lines) all =
    ap (λ (ms : List (List ℕ)). ms ++ installations lines) (derived-installs x (All-head (λ s. is_derived s ≡ true)
    x lines all))
    ∙ none-installs lines (All-tail (λ s. is_derived s ≡ true) x lines all)

-- the line of a reply is no claim and opens no question
pub record IsAnswerLine (answer : CertRecord) : Type 0 where
  pub no_claim : is_claim answer ≡ false
  pub no_question : (question : List Word) → answer ≢ Question question

pub reply-line : (reply : Reply) (answer : CertRecord) → IsReplyLine reply answer → IsAnswerLine answer
reply-line (replies.Found values)
    answer is = record { no_claim = ap is_claim is; no_question = λ question e. installs question (sym is ∙ e) }
  where
    installs : (question : List Word) → Installation (true_variables values) ≡ Question question → ⊥
    installs question e = cc
reply-line replies.Refuted answer is = record {
  no_claim = ap is_claim is.1;
  no_question = λ question e. refutes question (sym is.1 ∙ e);
}
  where
    refutes : (question : List Word) → Refuted is.0 ≡ Question question → ⊥
    refutes question e = cc
reply-line replies.Undecided answer is = record {
  no_claim = ap is_claim is;
  no_question = λ question e. leaves question (sym is ∙ e);
}
  where
    leaves : (question : List Word) → Undecided ≡ Question question → ⊥
    leaves question e = cc

pub any-join : (lines more : List CertRecord) → list_any is_claim lines ≡ false → list_any is_claim more ≡ false
    → list_any is_claim (lines ++ more) ≡ false
any-join [] more none later = later
any-join (x ∷ lines) more none later =
    let parts = or_parts (is_claim x) (list_any is_claim lines) none in
    ap (λ (b : Bool). b || list_any is_claim (lines ++ more)) parts.0 ∙ any-join lines more parts.1 later

pub question-claims : (question : List Word) (between : List CertRecord) (answer : CertRecord)
    → AllPass is_derived between → IsAnswerLine answer
    → list_any is_claim (question_lines question between answer) ≡ false
question-claims question between answer all line = any-join between (answer ∷ []) (none-claims between all) (ap (λ
    (b : Bool). b || false) line.no_claim)

pub question-installs : (question : List Word) (between : List CertRecord) (answer : CertRecord)
    → AllPass is_derived between
    → installations (question_lines question between answer) ≡ installed_in answer
question-installs question between answer all =
    installations-append between (answer ∷ []) ∙ ap (λ (ms : List (List ℕ)). ms ++ (installed_in answer ++ []))
    (none-installs between all)
    ∙ append-nil (installed_in answer)

pub contains-join : {X : Type 0} (xs ys : List X) (x : X) → Contains (xs ++ ys) x → Contains xs x ⊎ Contains ys x
contains-join [] ys x there = inr there
contains-join (z ∷ xs) ys x there = ⊎_elim (λ here. inl (0, omega arith, here))
    (λ later. ⊎_elim (λ left. inl (suc left.0, omega (arith, left.1), left.2)) (λ right. inr right)
    (contains-join xs ys x later))
    (contains-cases z (xs ++ ys) x there)

pub not-derived : (lines : List CertRecord) (question : List Word) → AllPass is_derived lines → ¬ Contains lines
    (Question question)
not-derived lines question all there = derived-asks (get_or lines there.0 (Question question)) question (all there.0
    (Question question) there.1) there.2

-- a question among some lines and those of a question
pub questions-of : (lines between : List CertRecord) (question other : List Word) (answer : CertRecord)
    → AllPass is_derived between → IsAnswerLine answer
    → Contains (lines ++ question_lines question between answer) (Question other) → Contains lines (Question other)
    ⊎
    (Question question ≡ Question other)
questions-of lines between question other answer all line there =
    ⊎_elim (λ left. inl left) (λ right. ⊎_elim (λ here. inr here) (λ later. ⊎_elim (λ derived. absurd
    (not-derived between other all derived))
    (λ last. ⊎_elim (λ here. absurd (line.no_question other here)) (λ none. absurd (nothing none))
    (contains-cases answer [] (Question other) last))
    (contains-join between (answer ∷ []) (Question other) later)) (contains-cases (Question question) (between
    ++ answer ∷ []) (Question other) right))
    (contains-join lines (question_lines question between answer) (Question other) there)
  where
    nothing : Contains [] (Question other) → ⊥
    nothing none = omega (arith, none.1)

pub closed-now : (lines between : List CertRecord) (question : List Word) (answer : CertRecord)
    → AllPass is_derived between
    → IsClosedBy (lines ++ question_lines question between answer) question answer
closed-now lines between question answer all = (
  lines,
  between,
  [],
  sym (append_assoc lines
      (Question question ∷ between) (answer ∷ [])),
  all-open between all,
)

pub none-claim-in : (step : CertRecord) → is_claim step ≡ false → claim_in step ≡ []
none-claim-in (Question literals) none = refl
none-claim-in (Derived literals hints) none = refl
none-claim-in (Refuted hints) none = refl
none-claim-in (Installation variables) none = refl
none-claim-in Undecided none = refl
none-claim-in End none = refl
none-claim-in step none = absurd (true≢false none)

pub none-claims-in : (lines : List CertRecord) → list_any is_claim lines ≡ false → claims_in lines ≡ []
none-claims-in [] none = refl
none-claims-in (x ∷ lines) none =
    let parts = or_parts (is_claim x) (list_any is_claim lines) none in
    ap (λ (cs : List Claim). cs ++ claims_in lines) (none-claim-in x parts.0) ∙ none-claims-in lines parts.1

pub claims-append : (lines more : List CertRecord) → list_any is_claim more ≡ false → claims_in (lines ++ more)
    ≡ claims_in lines
claims-append lines more none =
    flat_map-append claim_in lines more ∙ ap (λ (cs : List Claim). claims_in lines ++ cs) (none-claims-in more none)
    ∙ append-nil (claims_in lines)

pub claims-push : (lines : List CertRecord) (step : CertRecord) → claims_in (lines ++ step ∷ []) ≡ claims_in lines
    ++ claim_in step
claims-push lines step = flat_map-append claim_in lines (step ∷ []) ∙ ap (λ (cs : List Claim). claims_in lines
    ++ cs)
    (append-nil (claim_in step))

-- the lines of a question, of which the last installs some packages or none
pub record AreAsked (before : List CertRecord) (question : List Word) (installed : List (List ℕ))
    (after : List CertRecord) : Type 0 where
  pub between : List CertRecord
  pub answer : CertRecord
  pub only_derived : AllPass is_derived between
  pub answer_line : IsAnswerLine answer
  pub installs : installed_in answer ≡ installed
  pub is : after ≡ before ++ question_lines question between answer

pub group-after : (before : List CertRecord) (question : List Word) (installed : List (List ℕ))
    (after : List CertRecord)
    (asked : AreAsked before question installed after)
    → group after ≡ group before ++ question_lines question asked.between asked.answer
group-after before question installed after asked =
    ap group asked.is ∙ group-append before (question_lines question asked.between asked.answer)
    (question-claims question asked.between asked.answer asked.only_derived asked.answer_line)

pub count-after : (before : List CertRecord) (question : List Word) (installed : List (List ℕ))
    (after : List CertRecord)
    → AreAsked before question installed after → claim_count after ≡ claim_count before
count-after before question installed after asked =
    ap claim_count asked.is ∙ count-append before (question_lines question asked.between asked.answer)
    (question-claims question asked.between asked.answer asked.only_derived asked.answer_line)

pub installed-after : (before : List CertRecord) (question : List Word) (installed : List (List ℕ))
    (after : List CertRecord)
    → AreAsked before question installed after → installations after ≡ installations before ++ installed
installed-after before question installed after asked =
    ap installations asked.is ∙ installations-append before (question_lines question asked.between asked.answer)
    ∙ ap (λ (ms : List (List ℕ)). installations before ++ ms)
    (question-installs question asked.between asked.answer asked.only_derived ∙ asked.installs)

pub in-group-after : (before : List CertRecord) (question : List Word) (installed : List (List ℕ))
    (after : List CertRecord)
    → AreAsked before question installed after → installations (group after) ≡ installations (group before)
    ++ installed
in-group-after before question installed after asked =
    ap installations (group-after before question installed after asked)
    ∙ installations-append (group before) (question_lines question asked.between asked.answer)
    ∙ ap (λ (ms : List (List ℕ)). installations (group before) ++ ms)
    (question-installs question asked.between asked.answer asked.only_derived ∙ asked.installs)

pub closed-after : (before : List CertRecord) (question : List Word) (installed : List (List ℕ))
    (after : List CertRecord) (other : List Word) (answer : CertRecord)
    → AreAsked before question installed after
    → IsClosedBy (group before) other answer → IsClosedBy (group after) other answer
closed-after before question installed after other answer asked closed =
    subst (λ ls. IsClosedBy ls other answer) (sym (group-after before question installed after asked))
    (closed-more (group before) (question_lines question asked.between asked.answer) other answer closed)

pub closed-here : (before : List CertRecord) (question : List Word) (installed : List (List ℕ))
    (after : List CertRecord)
    (asked : AreAsked before question installed after) → IsClosedBy (group after) question asked.answer
closed-here before question installed after asked =
    subst (λ ls. IsClosedBy ls question asked.answer) (sym (group-after before question installed after asked))
    (closed-now (group before) asked.between question asked.answer asked.only_derived)
