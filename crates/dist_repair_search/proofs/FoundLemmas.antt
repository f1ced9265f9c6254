-- What a question finds: it is true, and it is what a question of a repair may find.
use Rattle.std.proofs.Common.{◌≡◌, inl, inr, ℕ, ◌≤◌, Bool, true, false, List, [], ◌∷◌, ◌++◌, length, refl, sym, subst, ◌∙◌, arith}
use Rattle.std.specs.List.{AllPass}
use Rattle.std.specs.Prelude.{All, Contains}
use Rattle.std.proofs.lemmas.Bool.{cond-true, false≢true}
use Rattle.std.proofs.lemmas.List.Elements.{All-contains, All-head, All-map, All-tail, Contains-append_cases, Contains-append_left}
use Rattle.dist_clause.specs.Formula.{IsTrueLiteral, literal, value_of}
use Rattle.dist_cert.specs.ClaimRules.{no, yes}
use Rattle.dist_cert.specs.Form.{Word}
use Rattle.dist_cert.specs.Groups.{clause_of}
use Rattle.dist_cert.specs.ListLaws.{any-from, both-flags, contains-cases, from-any}
use Rattle.dist_cert.specs.Rising.{is_among}
use Rattle.dist_cert.specs.declared.records.CertRecord.{CertRecord}
use Rattle.dist_cert.specs.declared.records.CertRecord.TheVariants as lines
use Rattle.dist_findings.specs.SoundLaws.{IsSound}
use Rattle.dist_findings.specs.declared.finding.Finding.{Finding}
use Rattle.dist_findings.specs.declared.finding.Finding.TheVariants as finding
use Rattle.dist_inquiry.specs.AnswerText.{finding_of}
use Rattle.dist_line_write.specs.Asking.{Says, is_derived, question_lines}
use Rattle.dist_line_write.specs.Script.{Script}
use Rattle.dist_findings.specs.Unclaimed.{clauses_alone}
use Rattle.dist_line_write.specs.TrueOnesLaws.{true-ones}
use Rattle.dist_line_write.specs.Words.{closing_line, true_variables}
use Rattle.dist_repair.specs.Answered.{Asked, AsksAlone, AsksAt, IsLower, beyond, installed_in, own}
use Rattle.dist_repair.specs.QuestionLaws.{not-both}
use Rattle.dist_repair.specs.Searched.{IsBegun, IsFoundAlone, IsFoundAt}
use Rattle.dist_solver.specs.declared.answers.Answer.{Answer}
use Rattle.dist_solver.specs.declared.answers.Answer.TheVariants as answers
use Rattle.dist_space.specs.Space.{SpaceView}
use Rattle.dist_subject.specs.Installed.{ModelsStand}

-- ---- true findings

pub finding-sound : (g : Script) (question : List Word) (answer : Answer) → ModelsStand (clauses_alone g.variables g.inputs) → Says g question answer
    → IsSound g.inputs 0 (finding_of question answer)
finding-sound g question (answers.Found values) stand (size, model, all) =
    (stand values (true_variables values) size model (true-ones values)).1
finding-sound g question (answers.Refuted hints) stand says = λ value model all.
    says value model (All-map (IsTrueLiteral value) (λ (word : Word). literal word.0 word.1) question all)
finding-sound g question answers.Undecided stand says = λ cone exact. omega arith

-- the true variables are those that are true
pub among-true : (values : List Bool) (v : ℕ) → 1 ≤ v → v ≤ length values → is_among (true_variables values) v ≡ value_of values v
among-true values v from upto =
    let same = true-ones values v from upto in
    both-flags (is_among (true_variables values) v) (value_of values v) (λ among. same.0 (from-any v (true_variables values) among))
    (λ holds. any-from v (true_variables values) (same.1 holds))

module _ (s : SpaceView) (asked : Asked) (g : Script) (from : 1 ≤ own s asked) (upto : own s asked ≤ g.variables) where
  abbrev True : List Bool → List Word → Type 0
  True values question = All (IsTrueLiteral (value_of values)) (clause_of question)

  own-true : (values : List Bool) → length values ≡ g.variables → value_of values (own s asked) ≡ true
      → is_among (true_variables values) (own s asked) ≡ true
  own-true values size holds = among-true values (own s asked) from (omega (arith, size, upto)) ∙ holds

  pub found-alone : (question : List Word) (answer : Answer) → AsksAlone s asked question → Says g question answer
      → IsFoundAlone s asked (finding_of question answer)
  found-alone question (answers.Found values) asks (size, model, all) =
      own-true values size (All-head (IsTrueLiteral (value_of values)) (literal (own s asked) true) []
      (subst (λ (q : List Word). True values q) asks all))
  found-alone question (answers.Refuted hints) asks says = asks
  found-alone question answers.Undecided asks says = asks

  module _ (j : ℕ) (low : 1 ≤ beyond s asked j) (high : beyond s asked j ≤ g.variables) where
    off-false : (values : List Bool) → length values ≡ g.variables → value_of values (beyond s asked j) ≡ false
        → is_among (true_variables values) (beyond s asked j) ≡ false
    off-false values size off = among-true values (beyond s asked j) low (omega (arith, size, high)) ∙ off

    pub found-at : (question : List Word) (answer : Answer) → AsksAt s asked j question → Says g question answer
        → IsFoundAt s asked j (finding_of question answer)
    found-at question (answers.Found values) (inl asks) (size, model, all) =
        let Is = IsTrueLiteral (value_of values) in
        let both : True values (yes (own s asked) ∷ no (beyond s asked j) ∷ []) = subst (λ (q : List Word). True values q) asks all in (
          own-true values size (All-head (IsTrueLiteral (value_of values)) (literal (own s asked) true) (literal (beyond s asked j) false ∷ []) both),
          off-false values size (All-head (IsTrueLiteral (value_of values)) (literal (beyond s asked j) false) []
              (All-tail (IsTrueLiteral (value_of values)) (literal (own s asked) true) (literal (beyond s asked j) false ∷ []) both)),
        )
    found-at question (answers.Found values) (inr asks) (size, model, all) =
        let both : True values (no (beyond s asked j) ∷ yes (own s asked) ∷ []) = subst (λ (q : List Word). True values q) asks all in (
          own-true values size (All-head (IsTrueLiteral (value_of values)) (literal (own s asked) true) []
              (All-tail (IsTrueLiteral (value_of values)) (literal (beyond s asked j) false) (literal (own s asked) true ∷ []) both)),
          off-false values size (All-head (IsTrueLiteral (value_of values)) (literal (beyond s asked j) false) (literal (own s asked) true ∷ []) both),
        )
    found-at question (answers.Refuted hints) asks says = asks
    found-at question answers.Undecided asks says = asks

-- ---- behind the question of the package alone

only-one : (f g : Finding) → Contains (f ∷ []) g → f ≡ g
only-one f g there = elim (contains-cases f [] g there) [
  | inl here ↦ here
  | inr none ↦ absurd (omega (arith, none.1))
]

same-question : (question other : List Word) → finding.Refuted question ≡ finding.Refuted other → question ≡ other
same-question question other same = cc

module _ (s : SpaceView) (asked : Asked) where
  pub begun-alone : (f : Finding) → IsFoundAlone s asked f → IsBegun s asked (f ∷ [])
  begun-alone (finding.Refuted question) asks = inl (question, asks, (0, omega arith, refl))
  begun-alone (finding.LeftUndecided question) asks = inr (inl (question, asks, (0, omega arith, refl)))
  begun-alone (finding.Installed members) has = inr (inr (
    members,
    Contains-append_left (installed_in s asked (finding.Installed members)) [] members
        (subst (λ (xs : List (List ℕ)). Contains xs members) (sym (cond-true (is_among members (own s asked)) (members ∷ []) [] has))
        (0, omega arith, refl)),
  ))

  none-at : (f : Finding) → IsFoundAlone s asked f → (j : ℕ) (question : List Word) → f ≡ finding.Refuted question → ¬ AsksAt s asked j question
  none-at (finding.Refuted own_one) alone j question is =
      not-both s asked j question (subst (AsksAlone s asked) (same-question own_one question is) alone)
  none-at (finding.LeftUndecided own_one) alone j question is = cc
  none-at (finding.Installed members) alone j question is = cc

  pub lower-alone : (f : Finding) → IsFoundAlone s asked f → IsLower s asked (f ∷ []) 0
  lower-alone f alone = record {
    shown = inl refl;
    greatest = λ j upto is. absurd (none-at f alone j is.0 (only-one f (finding.Refuted is.0) is.2) is.1);
  }

-- ---- the lines of a question

not-closing : (answer : Answer) (q : List Word) → closing_line answer ≡ lines.Question q → ⊥
not-closing (answers.Found values) q is = cc
not-closing (answers.Refuted hints) q is = cc
not-closing answers.Undecided q is = cc

one-opened : (question other : List Word) → lines.Question question ≡ lines.Question other → other ≡ question
one-opened question other same = cc

-- they open this question alone
pub question-in : (question : List Word) (between : List CertRecord) (answer : Answer) → AllPass is_derived between → (q : List Word)
    → Contains (question_lines question between (closing_line answer)) (lines.Question q) → q ≡ question
question-in question between answer all q there =
    elim (contains-cases (lines.Question question) (between ++ closing_line answer ∷ []) (lines.Question q) there) [
      | inl here ↦ one-opened question q here
      | inr later ↦ elim (Contains-append_cases between (closing_line answer ∷ []) (lines.Question q) later) [
        | inl derived ↦ absurd (false≢true (All-contains (λ (x : CertRecord). is_derived x ≡ true) between (lines.Question q) all derived))
        | inr last ↦ elim (contains-cases (closing_line answer) [] (lines.Question q) last) [
          | inl here ↦ absurd (not-closing answer q here)
          | inr none ↦ absurd (omega (arith, none.1))
        ]
      ]
    ]
