-- Whether a clause follows by hints, and whether a question is closed among lines, can be told.
use Rattle.std.proofs.Common.{◌≡◌, ◌≢◌, ◌⊎◌, ⊎_elim, inl, inr, ℕ, true, List, [], ◌∷◌, ◌++◌, length, refl, ap}
use Rattle.std.proofs.Common.{◌∙◌, arith, length-append}
use Rattle.std.specs.List.{AllPass}
use Rattle.std.proofs.lemmas.Bool.{cases_eq}
use Rattle.std.proofs.lemmas.List.Elements.{All-cons, All-nil, All-head, All-tail}
use Rattle.dist_base.specs.ListLaws.{any-contained}
use Rattle.dist_clause.specs.Formula.{Literal, literal, negation}
use Rattle.dist_clause.specs.ClauseList.{clause_at}
use Rattle.dist_derive.specs.Follows.{EndsFalse}
use Rattle.dist_derive.specs.Propagation.{IsFalse, IsUnit}
use Rattle.dist_cert.specs.declared.records.CertRecord.{CertRecord}
use Rattle.dist_cert.specs.declared.records.CertRecord.TheVariants as lines
use Rattle.dist_cert.specs.Form.{Word}
use Rattle.dist_cert.specs.Groups.{leaves_open, IsUndecidedIn}
use Rattle.dist_cert.specs.GroupLaws.{none-closed}
use Rattle.dist_line_check.specs.ToldLaws.{IsTold, most-told, bool-told, any-told, all-told, contains-told}

pub both-told : {P Q : Type 0} → IsTold P → IsTold Q → IsTold (P × Q)
both-told (inl p) (inl q) = inl (p, q)
both-told (inl p) (inr never) = inr (λ h. never h.1)
both-told (inr never) q = inr (λ h. never h.0)

either-told : {P Q : Type 0} → IsTold P → IsTold Q → IsTold (P ⊎ Q)
either-told (inl p) q = inl (inl p)
either-told (inr never) (inl q) = inl (inr q)
either-told (inr never) (inr none) = inr (λ h. ⊎_elim never none h)

pub not-told : {P : Type 0} → IsTold P → IsTold (¬ P)
not-told (inl p) = inr (λ never. never p)
not-told (inr never) = inl never

-- ---- literals and words

pub literal-told : (l m : Literal) → IsTold (l ≡ m)
literal-told l m = elim (cases_eq l.variable m.variable) [
  | inr other ↦ inr (λ e. other (ap (λ (x : Literal). x.variable) e))
  | inl same ↦ elim (bool-told l.positive m.positive) [
    | inr other ↦ inr (λ e. other (ap (λ (x : Literal). x.positive) e))
    | inl sign ↦ inl (λ i. literal (same i) (sign i))
  ]
]

word-told : (v w : Word) → IsTold (v ≡ w)
word-told v w = elim (cases_eq v.0 w.0) [
  | inr other ↦ inr (λ e. other (ap (λ (x : Word). x.0) e))
  | inl same ↦ elim (bool-told v.1 w.1) [
    | inr other ↦ inr (λ e. other (ap (λ (x : Word). x.1) e))
    | inl sign ↦ inl (λ i. (same i, sign i))
  ]
]

words-told : (vs ws : List Word) → IsTold (vs ≡ ws)
words-told [] [] = inl refl
words-told [] (w ∷ ws) = inr (λ e. cc)
words-told (v ∷ vs) [] = inr (λ e. cc)
words-told (v ∷ vs) (w ∷ ws) = elim (word-told v w) [
  | inr other ↦ inr (λ e. let same : v ≡ w = cc in other same)
  | inl same ↦ elim (words-told vs ws) [
    | inr other ↦ inr (λ e. let rest : vs ≡ ws = cc in other rest)
    | inl rest ↦ inl (λ i. same i ∷ rest i)
  ]
]

-- ---- hints

pub false-told : (trues : List Literal) (l : Literal) → IsTold (IsFalse trues l)
false-told trues l = contains-told trues (negation l) (λ m. literal-told m (negation l))

pub unit-told : (trues clause : List Literal) (l : Literal) → IsTold (IsUnit trues clause l)
unit-told trues clause l =
    let member = contains-told clause l (λ m. literal-told m l) in
    let unset = both-told (not-told (contains-told trues l (λ m. literal-told m l))) (not-told (false-told trues l)) in
    let others = all-told (λ m. m ≢ l → IsFalse trues m) other-told clause in
    elim (both-told member (both-told unset others)) [
      | inl h ↦ inl (record { member = h.0; unset = h.1.0; others = h.1.1 })
      | inr never ↦ inr (λ u. never (u.member, (u.unset, u.others)))
    ]
  where
    other-told : (m : Literal) → IsTold (m ≢ l → IsFalse trues m)
    other-told m = elim (literal-told m l) [
      | inl same ↦ inl (λ other. absurd (other same))
      | inr other ↦ elim (false-told trues m) [
        | inl is ↦ inl (λ _. is)
        | inr never ↦ inr (λ h. never (h other))
      ]
    ]

none-left-told : (hints : List ℕ) → IsTold (hints ≡ [])
none-left-told [] = inl refl
none-left-told (h ∷ hs) = inr (λ e. cc)

pub ends-told : (clauses : List (List Literal)) (trues : List Literal) (hints : List ℕ) → IsTold (EndsFalse clauses trues hints)
ends-told clauses trues [] = inr (λ h. h)
ends-told clauses trues (hint ∷ hints) =
    let clause = clause_at clauses hint in
    both-told (both-told (most-told 1 hint) (most-told hint (length clauses)))
    (either-told
    (both-told (all-told (IsFalse trues) (false-told trues) clause) (either-told (none-left-told hints) (ends-told clauses trues hints)))
    (elim (any-told Goes (λ l. both-told (unit-told trues clause l) (ends-told clauses (trues ++ l ∷ []) hints)) clause) [
      | inl any ↦ inl (any.1, any.4.0, any.4.1)
      | inr never ↦ inr (λ h. never (any-contained Goes clause h.0 h.1.member (h.1, h.2)))
    ]))
  where
    Goes : Literal → Type 0
    Goes l = IsUnit trues (clause_at clauses hint) l × EndsFalse clauses (trues ++ l ∷ []) hints

-- ---- closed questions

-- a line that comes while the question is open closes it as undecided
abbrev IsLeftUndecided : List CertRecord → Type 0
IsLeftUndecided steps = (between later : List CertRecord) × (steps ≡ between ++ lines.Undecided ∷ later) × AllPass leaves_open between

abbrev first-left : (steps : List CertRecord) → CertRecord
first-left [] = lines.End
first-left (step ∷ steps) = step

abbrev others-left : (steps : List CertRecord) → List CertRecord
others-left [] = []
others-left (step ∷ steps) = steps

undecided-told : (step : CertRecord) → IsTold (step ≡ lines.Undecided)
undecided-told lines.Undecided = inl refl
undecided-told step = inr (λ e. cc)

left-cases : (step : CertRecord) (steps between later : List CertRecord) → step ∷ steps ≡ between ++ lines.Undecided ∷ later → AllPass leaves_open between
    → (step ≡ lines.Undecided) ⊎ ((leaves_open step ≡ true) × IsLeftUndecided steps)
left-cases step steps [] later e all = inl (ap first-left e)
left-cases step steps (s ∷ ss) later e all = inr (
  ap (λ (x : CertRecord). leaves_open (first-left (x ∷ []))) (ap first-left e) ∙ All-head (λ x. leaves_open x ≡ true) s ss all,
  (ss, later, ap others-left e, All-tail (λ x. leaves_open x ≡ true) s ss all),
)

left-told : (steps : List CertRecord) → IsTold (IsLeftUndecided steps)
left-told [] = inr (λ h. omega (arith, ap length h.2, length-append h.0 (lines.Undecided ∷ h.1)))
left-told (step ∷ steps) = elim (undecided-told step) [
  | inl is ↦ inl ([], steps, ap (λ (s : CertRecord). s ∷ steps) is, All-nil (λ s. leaves_open s ≡ true))
  | inr other ↦ elim (both-told (bool-told (leaves_open step) true) (left-told steps)) [
    | inl h ↦ inl (
      step ∷ h.1.0,
      h.1.1,
      ap (λ (ls : List CertRecord). step ∷ ls) h.1.2,
      All-cons (λ s. leaves_open s ≡ true) step h.1.0 h.0 h.1.3,
    )
    | inr never ↦ inr (λ h. ⊎_elim other never (left-cases step steps h.0 h.1 h.2 h.3))
  ]
]

question-told : (step : CertRecord) (question : List Word) → IsTold (step ≡ lines.Question question)
question-told (lines.Question asked) question = elim (words-told asked question) [
  | inl same ↦ inl (ap (λ (ws : List Word). lines.Question ws) same)
  | inr other ↦ inr (λ e. let same : asked ≡ question = cc in other same)
]
question-told step question = inr (λ e. cc)

closed-cases : (step : CertRecord) (steps : List CertRecord) (question : List Word) (earlier between later : List CertRecord)
    → step ∷ steps ≡ earlier ++ lines.Question question ∷ between ++ lines.Undecided ∷ later → AllPass leaves_open between
    → ((step ≡ lines.Question question) × IsLeftUndecided steps) ⊎ IsUndecidedIn steps question
closed-cases step steps question [] between later e all = inl (ap first-left e, (between, later, ap others-left e, all))
closed-cases step steps question (s ∷ ss) between later e all = inr (ss, between, later, ap others-left e, all)

-- a question that is closed among lines is closed among these with others before them
pub closed-front : (front steps : List CertRecord) (question : List Word) → IsUndecidedIn steps question → IsUndecidedIn (front ++ steps) question
closed-front [] steps question closed = closed
closed-front (s ∷ front) steps question closed =
    let rest = closed-front front steps question closed in
    (s ∷ rest.0, rest.1, rest.2, ap (λ (ls : List CertRecord). s ∷ ls) rest.3, rest.4)

pub undecided-in-told : (steps : List CertRecord) (question : List Word) → IsTold (IsUndecidedIn steps question)
undecided-in-told [] question = inr (none-closed question lines.Undecided)
undecided-in-told (step ∷ steps) question = elim (both-told (question-told step question) (left-told steps)) [
  | inl h ↦ inl (
    [],
    h.1.0,
    h.1.1,
    (λ i. h.0 i ∷ h.1.2 i),
    h.1.3,
  )
  | inr never ↦ elim (undecided-in-told steps question) [
    | inl closed ↦ inl (closed-front (step ∷ []) steps question closed)
    | inr none ↦ inr (λ h. ⊎_elim never none (closed-cases step steps question h.0 h.1 h.2 h.3 h.4))
  ]
]
