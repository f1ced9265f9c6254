-- Whether two literals are the same, and whether a list has a literal.
use mathlib.Core.Bool.{beq}
use Rattle.std.proofs.Common.{◌≡◌, ◌≢◌, suc, ◌⊎◌, ⊎_elim, inl, inr, List, [], ◌∷◌, ap, ◌∙◌, arith}
use Rattle.std.specs.List.{Contains}
use Rattle.std.proofs.lemmas.Bool.{cases_Bool, cases_eq}
use Rattle.dist_clause.specs.Formula.{Literal, literal}
use Rattle.dist_derive.specs.OccurrencesPrivate.{code_of}
use Rattle.dist_derive.proofs.ValuedLemmas.{beq-true, beq-false}
use Rattle.dist_derive.proofs.MarkedLemmas.{Contains-tail}

pub same_or_not : (l m : Literal) → (l ≡ m) ⊎ (l ≢ m)
same_or_not l m = elim (cases_eq l.variable m.variable) [
  | inl v ↦ elim (cases_Bool (beq l.positive m.positive)) [
    | inl p ↦ inl (ap (λ n. literal n l.positive) v ∙ ap (λ b. literal m.variable b) (beq-true l.positive m.positive p))
    | inr p ↦ inr (λ e. beq-false l.positive m.positive p (ap (λ (x : Literal). x.positive) e))
  ]
  | inr v ↦ inr (λ e. v (ap (λ (x : Literal). x.variable) e))
]

pub same_code : (l m : Literal) → code_of l ≡ code_of m → l ≡ m
same_code l m e = grind arith

pub contains_or_not : (trues : List Literal) (l : Literal) → Contains trues l ⊎ (¬ Contains trues l)
contains_or_not [] l = inr (λ h. absurd (omega (arith, h.1)))
contains_or_not (m ∷ ms) l = elim (same_or_not m l) [
  | inl same ↦ inl (0, omega arith, same)
  | inr other ↦ ⊎_elim (λ h. inl (suc h.0, omega (arith, h.1), h.2)) (λ h. inr (λ g. h (Contains-tail m ms l g other))) (contains_or_not ms l)
]
