-- What can be told holds where it cannot fail.
use Rattle.std.proofs.Common.{◌≡◌, ◌⊎◌, ⊎_elim, inl, inr, ℕ, ◌<◌, ◌≤◌, Bool, true, false, List, [], ◌∷◌, refl, subst}
use Rattle.std.proofs.Common.{arith}
use Rattle.std.specs.List.{All, Any, Contains}
use Rattle.std.proofs.lemmas.Bool.{cases_lt, cases_eq}
use Rattle.std.proofs.lemmas.List.Elements.{All-nil, All-cons, All-head, All-tail}
use Rattle.dist_base.specs.ListLaws.{any-cases, any-head, any-later}
use Rattle.dist_clause.specs.Formula.{Literal, IsTrueLiteral, MakesTrue, IsModel}

abbrev pub IsTold : Type 0 → Type 0
IsTold P = P ⊎ (¬ P)

pub stable : {P : Type 0} → IsTold P → ¬ (¬ P) → P
stable (inl p) twice = p
stable (inr never) twice = absurd (twice never)

pub either-way : (P : Type 0) → ¬ ¬ IsTold P
either-way P never = never (inr (λ p. never (inl p)))

pub less-told : (a b : ℕ) → IsTold (a < b)
less-told a b = ⊎_elim (λ less. inl less) (λ past. inr (λ less. omega arith)) (cases_lt a b)

pub most-told : (a b : ℕ) → IsTold (a ≤ b)
most-told a b = ⊎_elim (λ less. inr (λ most. omega arith)) (λ past. inl past) (cases_lt b a)

pub bool-told : (a b : Bool) → IsTold (a ≡ b)
bool-told true true = inl refl
bool-told false false = inl refl
bool-told true false = inr (λ e. cc)
bool-told false true = inr (λ e. cc)

pub any-told : {X : Type 0} (P : X → Type 0) → ((x : X) → IsTold (P x)) → (xs : List X) → IsTold (Any P xs)
any-told P each [] = inr (λ any. omega (arith, any.2))
any-told P each (x ∷ xs) = elim (each x) [
  | inl here ↦ inl (any-head P x xs here)
  | inr none ↦ elim (any-told P each xs) [
    | inl later ↦ inl (any-later P x xs later)
    | inr never ↦ inr (λ any. elim (any-cases P x xs any) [
      | inl h ↦ none h
      | inr h ↦ never h
    ])
  ]
]

pub all-told : {X : Type 0} (P : X → Type 0) → ((x : X) → IsTold (P x)) → (xs : List X) → IsTold (All P xs)
all-told P each [] = inl (All-nil P)
all-told P each (x ∷ xs) = elim (each x) [
  | inr none ↦ inr (λ all. none (All-head P x xs all))
  | inl here ↦ elim (all-told P each xs) [
    | inl later ↦ inl (All-cons P x xs here later)
    | inr never ↦ inr (λ all. never (All-tail P x xs all))
  ]
]

pub contains-from : {X : Type 0} (xs : List X) (x : X) → Any (λ y. y ≡ x) xs → Contains xs x
contains-from xs x any = subst (Contains xs) any.4 (any.0, any.2, any.3)

pub contains-any : {X : Type 0} (xs : List X) (x : X) → Contains xs x → Any (λ y. y ≡ x) xs
contains-any xs x there = (there.0, x, there.1, there.2, refl)

pub contains-told : {X : Type 0} (xs : List X) (x : X) → ((y : X) → IsTold (y ≡ x)) → IsTold (Contains xs x)
contains-told xs x each = elim (any-told (λ y. y ≡ x) each xs) [
  | inl any ↦ inl (contains-from xs x any)
  | inr none ↦ inr (λ there. none (contains-any xs x there))
]

pub number-told : (xs : List ℕ) (x : ℕ) → IsTold (Contains xs x)
number-told xs x = contains-told xs x (λ y. cases_eq y x)

pub clause-told : (value : ℕ → Bool) (clause : List Literal) → IsTold (MakesTrue value clause)
clause-told value clause = any-told (IsTrueLiteral value) (λ l. bool-told (value l.variable) l.positive) clause

pub model-told : (value : ℕ → Bool) (clauses : List (List Literal)) → IsTold (IsModel value clauses)
model-told value clauses = all-told (MakesTrue value) (clause-told value) clauses
