-- Which literals may be kept, and which ones may be resolved.
use Rattle.std.proofs.Common.{◌≡◌, ◌≢◌, ℕ, ◌-◌, ◌<◌, ◌≤◌, ◌⊎◌, ⊎_elim, inl, inr, false, List, [], ◌∷◌, length, get_or, take}
use Rattle.std.proofs.Common.{ap, sym, subst, ◌∙◌, arith, slice_index}
use Rattle.std.specs.List.{All, AllPairs, Contains}
use Rattle.std.proofs.lemmas.Bool.{cases_lt}
use Rattle.std.proofs.lemmas.List.{length-take, get_or_default}
use Rattle.std.proofs.lemmas.List.Elements.{All-weaker, All-contains, All-contains_itself, Contains-get_or}
use Rattle.dist_clause.specs.Formula.{Literal, literal, negation}
use Rattle.dist_clause.specs.ClauseList.{clause_at}
use Rattle.dist_derive.specs.Propagation.{IsFalse}
use Rattle.dist_search.proofs.GuardLiterals.{same_or_not}
use Rattle.dist_search.specs.Trail.{TrailState, literal_at, IsGiven, IsTrail}
use Rattle.dist_search.specs.AnalysisPrivate.{HasValue, AreBounds, MayKeep}
use Rattle.dist_search.proofs.PlaceLemmas.{front_all}

no_starts : (starts : List ℕ) → length starts ≡ 0 → starts ≡ []
no_starts [] e = λ i. []
no_starts (s ∷ ss) e = absurd (omega (arith, e))

module _ (clauses : List (List Literal)) (trail : TrailState) (count first current place lowest : ℕ) (bounds : AreBounds trail first current)
    (given : IsTrail clauses (take count trail.literals) trail) (within : place < length trail.literals) where
  -- no start stands behind the current one
  to_current : AllPairs (λ s t. s < t) trail.starts → (s : ℕ) → Contains trail.starts s → s ≤ current
  to_current rising s h =
      let level = length trail.starts - 1 in
      let is = bounds.last level (omega (arith, h.1)) in
      let here = get_or_default trail.starts h.0 0 s h.1 ∙ h.2 in
      elim (cases_lt h.0 level) [
        | inl before ↦ omega (arith, here, is, rising h.0 level 0 before (omega (arith, h.1)))
        | inr last ↦
            let same : level ≡ h.0 = omega (arith, last, h.1) in
            omega (arith, is ∙ ap (λ k. get_or trail.starts k 0) same, here)
      ]

  -- the assumptions stand before it
  assumed_before : place < count → place < current
  assumed_before before = elim (cases_lt 0 (length trail.starts)) [
    | inl some ↦
        let level = length trail.starts - 1 in
        let is = bounds.last level (omega (arith, some)) in
        omega (arith, is, given.behind level 0 (omega (arith, some)), length-take count trail.literals)
    | inr none ↦ omega (arith, bounds.none (no_starts trail.starts (omega (arith, none))), bounds.in_order)
  ]

  keep_assumption : place < count → MayKeep trail count current place lowest
  keep_assumption before = record { assumed = λ none. before; last = λ late. absurd (omega (arith, late, assumed_before before)) }

  pub keep_unreasoned : AllPairs (λ s t. s < t) trail.starts → slice_index trail.reasons place ≡ 0 → MayKeep trail count current place lowest
  keep_unreasoned rising none = ⊎_elim
      (λ g. absurd (omega (arith, g.number.0, none)))
      (λ x. ⊎_elim
      (λ before. keep_assumption (omega (arith, before, length-take count trail.literals)))
      (λ start. record {
        assumed = λ empty. absurd (omega (arith, (subst (λ xs. Contains xs place) empty start).1));
        last = λ late. inl (omega (arith, late, to_current rising place start));
      })
      x.1)
      (given.given place within)

  pub keep_chosen : (place < count) ⊎ ((first ≤ place) × (current ≤ place → place ≤ lowest)) → MayKeep trail count current place lowest
  keep_chosen = ⊎_elim keep_assumption (λ x. record {
    assumed = λ none. absurd (omega (arith, bounds.none none, x.0));
    last = λ late. inr (x.1 late);
  })

  pub is_given : slice_index trail.reasons place ≢ 0 → IsGiven clauses trail place
  is_given some = ⊎_elim (λ g. g) (λ x. absurd (some x.0)) (given.given place within)

-- the literals of a clause that gave one have values
pub valued : (clauses : List (List Literal)) (trail : TrailState) (place : ℕ) → place < length trail.literals → IsGiven clauses trail place
    → All (HasValue trail.literals) (clause_at clauses (slice_index trail.reasons place))
valued clauses trail place within g =
    let clause = clause_at clauses (slice_index trail.reasons place) in
    let t = literal_at trail.literals place in
    All-weaker (Contains clause) (HasValue trail.literals)
    (λ l c. elim (same_or_not l t) [
      | inl same ↦ inl (subst (λ x. Contains trail.literals x) (sym same) (Contains-get_or trail.literals place (literal 0 false) within))
      | inr other ↦ inr (front_all trail.literals place (negation l) (All-contains (λ x. x ≢ t → IsFalse (take place trail.literals) x) clause l g.unit.others
          c other))
    ]) clause (All-contains_itself clause)
