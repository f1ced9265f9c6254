-- Lists of literals: one without a literal, one that is not all false, and the negations of one.
use Rattle.std.proofs.Common.{◌≡◌, ◌≢◌, suc, ◌↔◌, ◌<◌, ◌⊎◌, ⊎_elim, inl, inr, List, [], ◌∷◌, length, get_or, map, ap, sym, subst, ◌∙◌, arith}
use Rattle.std.specs.List.{Contains}
use Rattle.std.proofs.lemmas.List.{length-map, get_or-map}
use Rattle.std.proofs.lemmas.List.Elements.{All-nil, All-cons, Contains-get_or}
use Rattle.dist_clause.specs.Formula.{Literal, negation}
use Rattle.dist_derive.specs.Propagation.{IsFalse, AllFalse}
use Rattle.dist_search.proofs.GuardLiterals.{same_or_not, contains_or_not}
use Rattle.dist_search.proofs.ContainmentLemmas.{Contains-tail}
use Rattle.dist_search.proofs.PlaceLemmas.{negation-twice}

contains_first : (l m : Literal) (ls : List Literal) → l ≡ m → Contains (l ∷ ls) m
contains_first l m ls e = (0, omega arith, e)

contains_more : (l m : Literal) (ls : List Literal) → Contains ls m → Contains (l ∷ ls) m
contains_more l m ls h = (suc h.0, omega (arith, h.1), h.2)

contains_cases : (l m : Literal) (ls : List Literal) → Contains (l ∷ ls) m → (l ≡ m) ⊎ Contains ls m
contains_cases l m ls h = elim (same_or_not l m) [ inl same ↦ inl same | inr other ↦ inr (Contains-tail l ls m h other) ]

-- a clause without one literal
pub without : (clause : List Literal) (l : Literal) → (rest : List Literal) × ((m : Literal) → Contains rest m ↔ (Contains clause m × (m ≢ l)))
without [] l = ([], λ m. (λ h. absurd (omega (arith, h.1)), λ h. h.0))
without (x ∷ xs) l =
    let less = without xs l in
    elim (same_or_not x l) [
      | inl same ↦ (
        less.0,
        λ m. (
          λ h. let g = (less.1 m).0 h in (contains_more x m xs g.0, g.1),
          λ h. (less.1 m).1 (⊎_elim (λ e. absurd (h.1 (sym e ∙ same))) (λ g. g) (contains_cases x m xs h.0), h.1),
        ),
      )
      | inr other ↦ (
        x ∷ less.0,
        λ m. (
          λ h. ⊎_elim
              (λ e. (contains_first x m xs e, λ f. other (e ∙ f)))
              (λ g. let k = (less.1 m).0 g in (contains_more x m xs k.0, k.1))
              (contains_cases x m less.0 h),
          λ h. ⊎_elim
              (λ e. contains_first x m less.0 e)
              (λ g. contains_more x m less.0 ((less.1 m).1 (g, h.1)))
              (contains_cases x m xs h.0),
        ),
      )
    ]

-- of a clause that is not all false one literal is not false
pub one_not_false : (trues clause : List Literal) → (¬ AllFalse trues clause) → (l : Literal) × Contains clause l × (¬ IsFalse trues l)
one_not_false trues [] some = absurd (some (All-nil (IsFalse trues)))
one_not_false trues (l ∷ ls) some = elim (contains_or_not trues (negation l)) [
  | inl denied ↦
      let more = one_not_false trues ls (λ all. some (All-cons (IsFalse trues) l ls denied all)) in
      (more.0, contains_more l more.0 ls more.1, more.2)
  | inr free ↦ (l, contains_first l l ls (λ i. l), free)
]

-- the negations of a clause
pub negation_in : (clause : List Literal) (l : Literal) → Contains clause l → Contains (map negation clause) (negation l)
negation_in clause l h = (h.0, omega (arith, h.1, length-map clause negation), get_or-map negation clause h.0 l (negation l) h.1 ∙ ap negation h.2)

pub negation_of : (clause : List Literal) (l : Literal) → Contains (map negation clause) l → Contains clause (negation l)
negation_of clause l h =
    let within : h.0 < length clause = omega (arith, h.1, length-map clause negation) in
    let is = sym (get_or-map negation clause h.0 l l within) ∙ h.2 in
    subst (λ m. Contains clause m) (sym (negation-twice (get_or clause h.0 l)) ∙ ap negation is) (Contains-get_or clause h.0 l within)
