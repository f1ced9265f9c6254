-- What the findings of a file without a fault prove, of the clauses that its lines are judged by.
use Rattle.std.proofs.Common.{◌≡◌, inl, inr, ℕ, ◌≤◌, ◌↔◌, ◌^◌, Bool, true, false, List, [], ◌∷◌, ◌++◌}
use Rattle.std.proofs.Common.{Option, Some, None, length, map, take, refl, sym, subst, arith, length-append}
use Rattle.std.proofs.Common.{append_assoc, ◌∙◌}
use Rattle.std.specs.List.{All, Contains}
use Rattle.std.proofs.lemmas.Bool.{cases_Bool, true≢false, cases_lt}
use Rattle.std.proofs.lemmas.List.{take_at}
use Rattle.std.proofs.lemmas.List.Elements.{All-append, All-cons, All-head, All-nil, All-tail}
use Rattle.dist_base.specs.ListLaws.{any-cases}
use Rattle.dist_clause.specs.Formula.{Literal, IsModel, IsTrueLiteral, MakesTrue, negation}
use Rattle.dist_derive.specs.Cone.{InCone}
use Rattle.dist_derive.specs.New.{EachIsNew}
use Rattle.dist_cert.specs.declared.faults.CertCause.{CertCause}
use Rattle.dist_cert.specs.declared.faults.CertCause.TheVariants as causes
use Rattle.dist_cert.specs.declared.records.CertRecord.{CertRecord}
use Rattle.dist_cert.specs.declared.records.CertRecord.TheVariants as lines
use Rattle.dist_cert.specs.Form.{Word}
use Rattle.dist_cert.specs.GroupLaws.{closed-here, opened, still-open}
use Rattle.dist_cert.specs.Groups.{IsOpen, clause_of, derived, is_claim, leaves_open, numbered}
use Rattle.dist_cert.specs.LineRules.{HasRecordFault}
use Rattle.dist_cert.specs.Rising.{is_among}
use Rattle.dist_line_check.specs.LinesAt.{AreRight}
use Rattle.dist_line_check.specs.ModelLaws.{IsSoundRule, refuted-true}
use Rattle.dist_line_check.specs.ToldLaws.{model-told, most-told, stable}
use Rattle.dist_findings.specs.Findings.{findings, findings_behind, found_at, open_behind}
use Rattle.dist_findings.specs.Unclaimed.{HasUnclaimedFault, clauses_alone, limit_alone}
use Rattle.dist_findings.specs.declared.finding.Finding.{Finding}
use Rattle.dist_findings.specs.declared.finding.Finding.TheVariants as finding

-- A refuted question is false in each model of the clauses; an installation is one; and a question is left undecided
-- only where the limit is at most 3 to the power of the number of variables in its cone.
abbrev pub IsSound : List (List Literal) → (limit : ℕ) → Finding → Type 0
IsSound inputs limit (finding.Refuted question) = (value : ℕ → Bool) → IsModel value inputs
    → ¬ All (λ word. value word.0 ≡ word.1) question
IsSound inputs limit (finding.LeftUndecided question) = (cone : List ℕ)
    → ((v : ℕ) → Contains cone v ↔ InCone inputs (clause_of question) v) → limit ≤ 3 ^ length cone
IsSound inputs limit (finding.Installed members) = IsModel (is_among members) inputs

-- the law of dist_derive on new lines
abbrev pub NewLinesAreFew : Type 0
NewLinesAreFew = (clauses : List (List Literal)) (inputs : ℕ) (assumptions : List Literal) (lines : List (List Literal))
    (cone : List ℕ) → inputs ≤ length clauses
    → ((v : ℕ) → Contains cone v ↔ InCone (take inputs clauses) assumptions v)
    → EachIsNew clauses inputs assumptions lines → length lines ≤ 3 ^ length cone

-- no record has a fault behind those before it
abbrev pub AreUnclaimedRight : (List CertRecord → Type 0) → ℕ → List (List Literal) → ℕ → List CertRecord → Type 0
AreUnclaimedRight IsDecided variables inputs limit steps = (before : List CertRecord) (step : CertRecord)
    (after : List CertRecord) → steps ≡ before ++ step ∷ after → (cause : CertCause)
    → ¬ HasUnclaimedFault IsDecided variables inputs limit before step cause

-- the negations of literals that are true are false
none-true : (value : ℕ → Bool) (question : List Word) → MakesTrue value (map negation (clause_of question))
    → ¬ All (λ word. value word.0 ≡ word.1) question
none-true value [] some all = omega (arith, some.2)
none-true value (word ∷ question) some all =
    elim (any-cases (IsTrueLiteral value) (negation (record { variable = word.0; positive = word.1 }))
    (map negation (clause_of question)) some) [
      | inl here ↦ opposite word.1 (sym (All-head (λ w. value w.0 ≡ w.1) word question all) ∙ here)
      | inr later ↦ none-true value question later (All-tail (λ w. value w.0 ≡ w.1) word question all)
    ]
  where
    opposite : (b : Bool) → b ≡ (negation (record { variable = word.0; positive = b })).positive → ⊥
    opposite true e = cc
    opposite false e = cc

-- the question is open behind these lines, if there is one
abbrev IsAskedAt : List CertRecord → Option (List Word) → Type 0
IsAskedAt before None = Unit {0}
IsAskedAt before (Some question) = (earlier since : List CertRecord) × IsOpen before earlier question since

still-asked : (before : List CertRecord) (asked : Option (List Word)) (step : CertRecord) → leaves_open step ≡ true
    → IsAskedAt before asked → IsAskedAt (before ++ step ∷ []) asked
still-asked before None step leaves at = tt
still-asked before (Some question) step leaves at =
    (at.0, at.1 ++ step ∷ [], still-open before step at.0 question at.1 leaves at.2)

asked-next : (before : List CertRecord) (asked : Option (List Word)) (step : CertRecord) → IsAskedAt before asked
    → IsAskedAt (before ++ step ∷ []) (open_behind asked step)
asked-next before asked (lines.Question literals) at = (before, [], opened before literals)
asked-next before asked (lines.Derived literals hints) at = still-asked before asked (lines.Derived literals hints)
    refl at
asked-next before asked (lines.Installation members) at =
    still-asked before asked (lines.Installation members) refl at
asked-next before asked step at = tt

module _ (sound : IsSoundRule) (few : NewLinesAreFew) (IsDecided : List CertRecord → Type 0) (variables : ℕ)
    (inputs : List (List Literal)) (limit : ℕ) (steps : List CertRecord)
    (right : AreUnclaimedRight IsDecided variables inputs limit steps) where
  plain : (before : List CertRecord) (step : CertRecord) (after : List CertRecord) → steps ≡ before ++ step ∷ after
      → (cause : CertCause) → is_claim step ≡ false
      → ¬ HasRecordFault (clauses_alone variables inputs) (limit_alone limit) before step cause
  plain before step after is causes.WrongClaim claim fault = true≢false (sym fault.0 ∙ claim)
  plain before (lines.Strong p named on undecided) after is causes.Incomplete claim fault = true≢false claim
  plain before (lines.Challenged p named by undecided) after is causes.Incomplete claim fault = true≢false claim
  plain before lines.End after is causes.Incomplete claim fault = omega (arith, fault)
  plain before step after is causes.Incomplete claim fault = fault
  plain before step after is cause claim fault = right before step after is cause (claim, fault)

  -- they have no fault as lines of a certificate
  pub right_lines : AreRight (clauses_alone variables inputs) (limit_alone limit) steps
  right_lines before step after is cause fault = elim (cases_Bool (is_claim step)) [
    | inl claim ↦ right before step after is causes.WrongClaim claim
    | inr none ↦ plain before step after is cause none fault
  ]

  refuted : (before : List CertRecord) (question : List Word) (hints : List ℕ) (after : List CertRecord)
      → steps ≡ before ++ lines.Refuted hints ∷ after → IsAskedAt before (Some question)
      → IsSound inputs limit (finding.Refuted question)
  refuted before question hints after is at value model = none-true value question
      (refuted-true sound (clauses_alone variables inputs) (limit_alone limit) steps right_lines []
      (before ++ lines.Refuted hints ∷ []) after question (is
      ∙ sym (append_assoc before (lines.Refuted hints ∷ []) after))
      (hints, closed-here before question (lines.Refuted hints) (at.0, at.1, at.2)) value model)

  undecided : (before : List CertRecord) (question : List Word) (after : List CertRecord)
      → steps ≡ before ++ lines.Undecided ∷ after → IsAskedAt before (Some question)
      → IsSound inputs limit (finding.LeftUndecided question)
  undecided before question after is at cone exact =
      let earlier : List CertRecord = at.0 in
      let since : List CertRecord = at.1 in
      let all : List (List Literal) = numbered (clauses_alone variables inputs) earlier in
      let front : take (length inputs) all ≡ inputs = take_at inputs (derived earlier) (length inputs) refl in
      stable (most-told limit (3 ^ length cone)) (λ none.
      right_lines before lines.Undecided after is causes.NotNew (
        earlier,
        question,
        since,
        at.2,
        λ new.
            right_lines before lines.Undecided after is causes.LimitNotReached (
              earlier,
              question,
              since,
              at.2,
              elim (cases_lt (length (derived since)) limit) [
                | inl less ↦ less
                | inr past ↦ absurd (none (
                    let bound : length (derived since) ≤ 3 ^ length cone = few all (length inputs) (clause_of question)
                    (derived since) cone (omega (arith, length-append inputs (derived earlier)))
                    (subst (λ cs. (v : ℕ) → Contains cone v ↔ InCone cs (clause_of question) v) (sym front) exact) new
                    in
                    omega (arith, past, bound)))
              ],
            ),
      ))

  installed : (before : List CertRecord) (members : List ℕ) (after : List CertRecord)
      → steps ≡ before ++ lines.Installation members ∷ after → IsSound inputs limit (finding.Installed members)
  installed before members after is = stable (model-told (is_among members) inputs)
      (λ none. right_lines before (lines.Installation members) after is causes.NotAnInstallation none)

  found-sound : (before : List CertRecord) (asked : Option (List Word)) (step : CertRecord) (after : List CertRecord)
      → steps ≡ before ++ step ∷ after → IsAskedAt before asked → All (IsSound inputs limit) (found_at asked step)
  found-sound before (Some question) (lines.Refuted hints) after is at =
      All-cons (IsSound inputs limit) (finding.Refuted question) [] (refuted before question hints after is at)
      (All-nil (IsSound inputs limit))
  found-sound before (Some question) lines.Undecided after is at =
      All-cons (IsSound inputs limit) (finding.LeftUndecided question) [] (undecided before question after is at)
      (All-nil (IsSound inputs limit))
  found-sound before asked (lines.Installation members) after is at =
      All-cons (IsSound inputs limit) (finding.Installed members) [] (installed before members after is)
      (All-nil (IsSound inputs limit))
  found-sound before asked step after is at = All-nil (IsSound inputs limit)

  all-sound : (before : List CertRecord) (asked : Option (List Word)) (rest : List CertRecord) → steps ≡ before ++ rest
      → IsAskedAt before asked → All (IsSound inputs limit) (findings_behind asked rest)
  unfolding findings_behind
  all-sound before asked [] is at = All-nil (IsSound inputs limit)
  all-sound before asked (step ∷ rest) is at =
      All-append (IsSound inputs limit) (found_at asked step) (findings_behind (open_behind asked step) rest)
      (found-sound before asked step rest is at)
      (all-sound (before ++ step ∷ []) (open_behind asked step) rest (is ∙ sym (append_assoc before (step ∷ []) rest))
      (asked-next before asked step at))

  -- each finding is sound
  pub findings_sound : All (IsSound inputs limit) (findings steps)
  findings_sound = all-sound [] None steps refl tt
