-- Literals of which no two are of one variable, by their places.
use Rattle.std.proofs.Common.{◌≡◌, ◌≢◌, ℕ, ◌+◌, ◌<◌, ◌≤◌, ◌⊎◌, inl, inr, Bool, true, false, not, List, length, take, refl, ap, sym}
use Rattle.std.proofs.Common.{subst, ◌∙◌, arith}
use Rattle.std.specs.List.{AllPairs, Contains}
use Rattle.std.proofs.lemmas.Bool.{cases_lt}
use Rattle.std.proofs.lemmas.List.{get_or_default, get_or-take, take_more, length-take}
use Rattle.std.proofs.lemmas.List.Elements.{Contains-get_or, Contains-push_cases}
use Rattle.dist_clause.specs.Formula.{Literal, literal, negation}
use Rattle.dist_search.specs.Trail.{literal_at}

not-twice : (b : Bool) → not (not b) ≡ b
not-twice true = refl
not-twice false = refl

pub negation-twice : (l : Literal) → negation (negation l) ≡ l
negation-twice l = ap (literal l.variable) (not-twice l.positive)

-- two negations are the same where the literals are
pub same_negations : (l m : Literal) → negation l ≡ negation m → l ≡ m
same_negations l m e = sym (negation-twice l) ∙ (ap negation e ∙ negation-twice m)

pub negated : (l m : Literal) → l ≡ negation m → m ≡ negation l
negated l m e = sym (negation-twice m) ∙ ap negation (sym e)

pub same_variable : (l m : Literal) → l ≡ m → l.variable ≡ m.variable
same_variable l m e = ap (λ (x : Literal). x.variable) e

pub at_place : (trues : List Literal) (l : Literal) → Contains trues l → (k : ℕ) × (k < length trues) × (literal_at trues k ≡ l)
at_place trues l h = (h.0, h.1, get_or_default trues h.0 (literal 0 false) l h.1 ∙ h.2)

pub contains_front : (trues : List Literal) (k j : ℕ) → j < k → j < length trues → Contains (take k trues) (literal_at trues j)
contains_front trues k j before within = subst (λ x. Contains (take k trues) x) (get_or-take k trues j (literal 0 false) before)
    (Contains-get_or (take k trues) j (literal 0 false) (omega (arith, length-take k trues)))

pub front_place : (trues : List Literal) (k : ℕ) (l : Literal) → Contains (take k trues) l
    → (j : ℕ) × (j < k) × (j < length trues) × (literal_at trues j ≡ l)
front_place trues k l h =
    let p = at_place (take k trues) l h in
    let before : p.0 < k = omega (arith, p.1, length-take k trues) in (
      p.0,
      before,
      omega (arith, p.1, length-take k trues),
      sym (get_or-take k trues p.0 (literal 0 false) before) ∙ p.2,
    )

pub front_more : (trues : List Literal) (k j : ℕ) (l : Literal) → k ≤ j → Contains (take k trues) l → Contains (take j trues) l
front_more trues k j l more h =
    let p = front_place trues k l h in
    subst (λ x. Contains (take j trues) x) p.3 (contains_front trues j p.0 (omega (arith, p.1)) p.2)

pub front_all : (trues : List Literal) (k : ℕ) (l : Literal) → Contains (take k trues) l → Contains trues l
front_all trues k l h =
    let p = front_place trues k l h in
    subst (λ x. Contains trues x) p.3 (Contains-get_or trues p.0 (literal 0 false) p.2)

pub front_next : (trues : List Literal) (k : ℕ) (l : Literal) → k < length trues → Contains (take (k + 1) trues) l
    → Contains (take k trues) l ⊎ (literal_at trues k ≡ l)
front_next trues k l within h =
    Contains-push_cases (take k trues) (literal_at trues k) l (subst (λ xs. Contains xs l) (take_more trues k (literal 0 false) within) h)

module _ (trues : List Literal) (apart : AllPairs (λ l m. l.variable ≢ m.variable) trues) where
  pub one_place : (i j : ℕ) → i < length trues → j < length trues → (literal_at trues i).variable ≡ (literal_at trues j).variable → i ≡ j
  one_place i j i_in j_in e = elim (cases_lt i j) [
    | inl before ↦ absurd (apart i j (literal 0 false) before j_in e)
    | inr other ↦ elim (cases_lt j i) [
      | inl behind ↦ absurd (apart j i (literal 0 false) behind i_in (sym e))
      | inr same ↦ omega arith
    ]
  ]

  pub same_literal : (l m : Literal) → Contains trues l → Contains trues m → l.variable ≡ m.variable → l ≡ m
  same_literal l m here there e =
      let a = at_place trues l here in
      let b = at_place trues m there in
      let same = one_place a.0 b.0 a.1 b.1 (same_variable (literal_at trues a.0) l a.2 ∙ (e ∙ sym (same_variable (literal_at trues b.0) m b.2))) in
      sym a.2 ∙ (ap (λ k. literal_at trues k) same ∙ b.2)

  -- before its place no literal of the variable stands
  pub not_before : (k j : ℕ) (l : Literal) → k ≤ j → j < length trues → l.variable ≡ (literal_at trues j).variable → ¬ Contains (take k trues) l
  not_before k j l behind within e = λ h.
      let p = front_place trues k l h in
      let same = one_place p.0 j p.2 within (same_variable (literal_at trues p.0) l p.3 ∙ e) in
      absurd (omega (arith, same, p.1, behind))
