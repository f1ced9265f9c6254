-- The assignment of a model, one variable after another.
use Rattle.std.proofs.Common.{◌≡◌, ℕ, ◌-◌, ◌≤◌, inl, inr, Bool, true, false, List, [], ◌∷◌, ◌++◌, length, get_or, set, replicate, ap, sym}
use Rattle.std.proofs.Common.{subst, ◌∙◌, arith, length-append}
use Rattle.std.specs.List.{Contains}
use Rattle.std.proofs.lemmas.Bool.{false≢true, cases_eq, cases_lt}
use Rattle.std.proofs.lemmas.List.{get_or-set_same, get_or-set_other, get_or-replicate, get_or_past, get_or_append_left, length-replicate}
use Rattle.std.proofs.lemmas.List.Elements.{Contains-push, Contains-push_cases}
use Rattle.dist_clause.specs.Formula.{value_of}
use Rattle.dist_derive.specs.VariableSet.{GivesTrue}

none_true : (n k : ℕ) → get_or (replicate n false) k false ≡ false
none_true n k = elim (cases_lt k n) [
  | inl within ↦ get_or-replicate n k false false within
  | inr past ↦ get_or_past (replicate n false) k false (omega (arith, past, length-replicate n false))
]

still_in : (members : List ℕ) (v u : ℕ) → Contains members u → Contains (members ++ v ∷ []) u
still_in members v u h = (h.0, omega (arith, h.1, length-append members (v ∷ [])), get_or_append_left members (v ∷ []) u h.0 h.1 ∙ h.2)

pub GivesTrue-none : (n : ℕ) → GivesTrue (value_of (replicate n false)) []
GivesTrue-none n = λ v one. (λ e. absurd (false≢true (sym (none_true n (v - 1)) ∙ e)), λ h. absurd (omega (arith, h.1)))

pub GivesTrue-more : (values : List Bool) (members : List ℕ) (v : ℕ) → 1 ≤ v → v ≤ length values → GivesTrue (value_of values) members
    → GivesTrue (value_of (set values (v - 1) true)) (members ++ v ∷ [])
GivesTrue-more values members v one in_range gives = λ u u_one. elim (cases_eq u v) [
  | inl same ↦ (
    λ _. subst (λ w. Contains (members ++ v ∷ []) w) (sym same) (Contains-push members v),
    λ _. ap (λ w. get_or (set values (v - 1) true) (w - 1) false) same ∙ get_or-set_same values (v - 1) true false (omega (arith, one, in_range)),
  )
  | inr other ↦
      let there : value_of (set values (v - 1) true) u ≡ value_of values u =
      get_or-set_other values (v - 1) (u - 1) true false (λ e. other (omega (arith, e, one, u_one))) in (
        λ e. still_in members v u ((gives u u_one).0 (sym there ∙ e)),
        λ c. elim (Contains-push_cases members v u c) [ inl old ↦ there ∙ (gives u u_one).1 old | inr e ↦ absurd (other (sym e)) ],
      )
]
