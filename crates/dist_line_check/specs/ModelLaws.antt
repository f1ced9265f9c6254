-- In a model of the input clauses each numbered clause is true, and a refuted question is false.
use Rattle.std.proofs.Common.{◌≡◌, ℕ, Bool, List, [], ◌∷◌, ◌++◌, length, map, take, sym, ap, subst, ◌∙◌, append_assoc}
use Rattle.std.proofs.Common.{arith}
use Rattle.std.proofs.lemmas.List.{append-nil, take_all}
use Rattle.std.proofs.lemmas.List.Elements.{All-append, All-nil, All-cons}
use Rattle.std.proofs.lemmas.Grind.{flat_map-append}
use Rattle.dist_clause.specs.Formula.{Literal, negation, MakesTrue, IsModel}
use Rattle.dist_derive.specs.Follows.{Follows, EachLineFollows}
use Rattle.dist_cert.specs.declared.faults.CertCause.TheVariants as causes
use Rattle.dist_cert.specs.declared.records.CertRecord.{CertRecord}
use Rattle.dist_cert.specs.declared.records.CertRecord.TheVariants.{Question, Derived, Refuted}
use Rattle.dist_cert.specs.declared.records.Header.{Header}
use Rattle.dist_cert.specs.Form.{Word}
use Rattle.dist_cert.specs.Subject.{Matter}
use Rattle.dist_cert.specs.Groups.{clause_of, derived_in, derived, numbered, IsOpen, IsRefutedIn}
use Rattle.dist_line_check.specs.ToldLaws.{stable, clause-told}
use Rattle.dist_line_check.specs.LinesAt.{AreRight}

-- what follows is true in each model of the clauses
abbrev pub IsSoundRule : Type 0
IsSoundRule = (clauses : List (List Literal)) (clause : List Literal) (hints : List ℕ) (value : ℕ → Bool)
    → Follows clauses clause hints → IsModel value clauses
    → MakesTrue value clause

-- the law of dist_derive, at logs without derived lines
abbrev pub WhatFollows : Type 0
WhatFollows = (inputs : ℕ) (clauses : List (List Literal)) (clause : List Literal) (hints : List ℕ) (value : ℕ
    → Bool) → EachLineFollows inputs clauses
    → Follows clauses clause hints
    → IsModel value (take inputs clauses) → MakesTrue value clause

no-lines : (clauses : List (List Literal)) → EachLineFollows (length clauses) clauses
no-lines clauses number past within = absurd (omega (arith, past, within))

pub sound-rule : WhatFollows → IsSoundRule
sound-rule law clauses clause hints value follows model =
    law (length clauses) clauses clause hints value (no-lines clauses) follows
    (subst (IsModel value) (sym (take_all (length clauses) clauses (omega arith))) model)

-- the numbered clauses behind one line more
numbered-push : (matter : Matter) (before : List CertRecord) (step : CertRecord)
    → numbered matter (before ++ step ∷ []) ≡ numbered matter before ++ derived_in step
numbered-push matter before step =
    ap (λ (cs : List (List Literal)). matter.inputs ++ cs) (flat_map-append derived_in before (step ∷ [])
    ∙ ap (λ (cs : List (List Literal)). derived before ++ cs) (append-nil (derived_in step)))
    ∙ sym (append_assoc matter.inputs (derived before) (derived_in step))

derived-true : IsSoundRule → (matter : Matter) (h : Header) (steps : List CertRecord) → AreRight matter h steps
    → (value : ℕ → Bool) (before : List CertRecord) (step : CertRecord) (after : List CertRecord)
    → steps ≡ before ++ step ∷ after → IsModel value (numbered matter before) → IsModel value (derived_in step)
derived-true sound matter h steps right value before (Derived literals hints) after is model =
    All-cons (MakesTrue value) (clause_of literals) [] (stable (clause-told value (clause_of literals))
    (λ none. right before (Derived literals hints) after is causes.BadLine
    (λ follows. none (sound (numbered matter before) (clause_of literals) hints value follows model)))) (All-nil
    (MakesTrue value))
derived-true sound matter h steps right value before step after is model = All-nil (MakesTrue value)

keep-model : IsSoundRule → (matter : Matter) (h : Header) (steps : List CertRecord) → AreRight matter h steps
    → (value : ℕ → Bool) (before more after : List CertRecord)
    → steps ≡ before ++ (more ++ after) → IsModel value (numbered matter before)
    → IsModel value (numbered matter (before ++ more))
keep-model sound matter h steps right value before [] after is model = subst (λ b. IsModel value (numbered matter b))
    (sym (append-nil before)) model
keep-model sound matter h steps right value before (step ∷ more) after is model =
    let next : IsModel value (numbered matter (before ++ step ∷ []))
    = subst (IsModel value) (sym (numbered-push matter before step))
    (All-append (MakesTrue value) (numbered matter before) (derived_in step) model
    (derived-true sound matter h steps right value before step (more ++ after) is model)) in
    subst (λ b. IsModel value (numbered matter b)) (append_assoc before (step ∷ []) more)
    (keep-model sound matter h steps right value (before ++ step ∷ []) more after (is
    ∙ sym (append_assoc before (step ∷ []) (more ++ after))) next)

-- a model of the input clauses is one of all numbered clauses
pub model-before : IsSoundRule → (matter : Matter) (h : Header) (steps : List CertRecord) → AreRight matter h steps
    → (value : ℕ → Bool) (before after : List CertRecord)
    → steps ≡ before ++ after → IsModel value matter.inputs → IsModel value (numbered matter before)
model-before sound matter h steps right value before after is model =
    keep-model sound matter h steps right value [] before after is (subst (IsModel value) (sym (append-nil
    matter.inputs)) model)

-- the clause of a refuted question's negated assumptions is true in each model of the input clauses
pub refuted-true : IsSoundRule → (matter : Matter) (h : Header) (steps : List CertRecord) → AreRight matter h steps
    → (front lines after : List CertRecord) (question : List Word)
    → steps ≡ (front ++ lines) ++ after → IsRefutedIn lines question → (value : ℕ → Bool) → IsModel value matter.inputs
    → MakesTrue value (map negation (clause_of question))
refuted-true sound matter h steps right front lines after question is refuted value model =
    let hints = refuted.0 in
    let earlier = refuted.1.0 in
    let between = refuted.1.1 in
    let later = refuted.1.2 in
    let asked : List CertRecord = earlier ++ Question question ∷ between in
    let before : List CertRecord = front ++ asked in
    let whole : steps ≡ before ++ Refuted hints ∷ (later ++ after)
    = is ∙ ap (λ (ls : List CertRecord). (front ++ ls) ++ after) refuted.1.3
    ∙ ap (λ (ls : List CertRecord). ls ++ after) (sym (append_assoc front asked (Refuted hints ∷ later)))
    ∙ append_assoc before (Refuted hints ∷ later) after in
    let opened : IsOpen before (front ++ earlier) question between =
    record { ends = sym (append_assoc front earlier (Question question ∷ between)); left_open = refuted.1.4 } in
    stable (clause-told value (map negation (clause_of question)))
    (λ none. right before (Refuted hints) (later ++ after) whole causes.BadLine (
      front ++ earlier,
      question,
      between,
      opened,
      λ follows. none (sound (numbered matter before) (map negation (clause_of question)) hints value follows
          (model-before sound matter h steps right value before (Refuted hints ∷ (later ++ after)) whole model)),
    ))
