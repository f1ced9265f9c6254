-- How a question begins: its assumptions, and single literals.
use Rattle.std.proofs.Common.{◌≡◌, ℕ, ⊎_elim, inl, inr, ◌<◌, ◌≤◌, false, List, [], ◌∷◌, ◌++◌, length, get_or, take, refl, ap, sym, subst}
use Rattle.std.proofs.Common.{◌∙◌, arith, length-take}
use Rattle.std.specs.List.{Contains}
use Rattle.std.proofs.lemmas.Bool.{cases_eq}
use Rattle.std.proofs.lemmas.List.{get_or_default, get_or-take, get_or_append_left, length_push, take-append-le}
use Rattle.std.proofs.Math.Seq.{get_or-append_seam, take-append_seam}
use Rattle.dist_clause.specs.Formula.{Literal, literal, negation, IsClauseOver}
use Rattle.dist_clause.specs.ClauseList.{clause_at}
use Rattle.dist_derive.specs.Propagation.{IsUnset, IsUnit}
use Rattle.dist_derive.specs.Follows.{IsNumberOf}
use Rattle.dist_search.specs.Trail.{TrailState, IsTrail, IsGiven, literal_at}

-- ---- the assumptions

-- no literal of a later literal's variable stands before it
not_before : (n : ℕ) (clause : List Literal) (i : ℕ) (l m : Literal) → IsClauseOver n clause → i < length clause → l ≡ get_or clause i l
    → m.variable ≡ l.variable → ¬ Contains (take i clause) m
not_before n clause i l m over within at same h =
    let before : h.0 < i = omega (arith, h.1, length-take i clause) in
    let early : get_or clause h.0 l ≡ m = get_or_default clause h.0 l m (omega (arith, before, within)) ∙ (sym (get_or-take i clause h.0 m before) ∙ h.2) in
    over.distinct h.0 i l before within (ap (λ (x : Literal). x.variable) early ∙ (same ∙ ap (λ (x : Literal). x.variable) at))

pub unset_before : (n : ℕ) (clause : List Literal) (i : ℕ) (l : Literal) → IsClauseOver n clause → i < length clause → l ≡ get_or clause i l
    → IsUnset (take i clause) l
unset_before n clause i l over within at =
    (not_before n clause i l l over within at refl, not_before n clause i l (negation l) over within at refl)

-- a trail without literals
pub no_literal : (t : TrailState) → t.literals ≡ [] → t.reasons ≡ [] → t ≡ record t { literals = []; reasons = [] }
no_literal t none no_reason = ap (λ ls. record t { literals = ls }) none ∙ ap (λ rs. record t { literals = []; reasons = rs }) no_reason

-- ---- a literal that a clause gives

abbrev pub longer : TrailState → Literal → ℕ → TrailState
longer trail l number = record trail { literals = trail.literals ++ l ∷ []; reasons = trail.reasons ++ number ∷ [] }

-- what stood before stands where a trail has grown by a literal
pub given_before : (clauses : List (List Literal)) (trail : TrailState) (l : Literal) (number place : ℕ) → length trail.reasons ≡ length trail.literals
    → place < length trail.literals → IsGiven clauses trail place
    → IsGiven clauses (record trail { literals = trail.literals ++ l ∷ []; reasons = trail.reasons ++ number ∷ [] }) place
given_before clauses trail l number place same within given =
    let reason : get_or (trail.reasons ++ number ∷ []) place 0 ≡ get_or trail.reasons place 0 =
    get_or_append_left trail.reasons (number ∷ []) 0 place (omega (arith, same, within)) in
    let front : take place (trail.literals ++ l ∷ []) ≡ take place trail.literals =
    take-append-le place trail.literals (l ∷ []) (omega (arith, within)) in
    let at : literal_at (trail.literals ++ l ∷ []) place ≡ literal_at trail.literals place =
    get_or_append_left trail.literals (l ∷ []) (literal 0 false) place within in
    record {
      number = subst (λ n. IsNumberOf clauses n) (sym reason) given.number;
      unit = subst (λ trues. IsUnit trues (clause_at clauses (get_or (trail.reasons ++ number ∷ []) place 0)) (literal_at (trail.literals ++ l ∷ []) place))
          (sym front)
          (subst (λ n. IsUnit (take place trail.literals) (clause_at clauses n) (literal_at (trail.literals ++ l ∷ []) place)) (sym reason)
          (subst (λ (m : Literal). IsUnit (take place trail.literals) (clause_at clauses (get_or trail.reasons place 0)) m) (sym at) given.unit));
    }

module _ (clauses : List (List Literal)) (trail : TrailState) (l : Literal) (number : ℕ) (same : length trail.reasons ≡ length trail.literals)
    (is_number : IsNumberOf clauses number) (unit : IsUnit trail.literals (clause_at clauses number) l) where
  pub given_last : IsGiven clauses (longer trail l number) (length trail.literals)
  given_last =
      let reason : get_or (trail.reasons ++ number ∷ []) (length trail.literals) 0 ≡ number =
      ap (λ k. get_or (trail.reasons ++ number ∷ []) k 0) (sym same) ∙ get_or-append_seam trail.reasons number [] 0 in
      let front : take (length trail.literals) (trail.literals ++ l ∷ []) ≡ trail.literals = take-append_seam trail.literals (l ∷ []) in
      let at : literal_at (trail.literals ++ l ∷ []) (length trail.literals) ≡ l = get_or-append_seam trail.literals l [] (literal 0 false) in
      record {
        number = subst (λ n. IsNumberOf clauses n) (sym reason) is_number;
        unit = subst (λ trues. IsUnit trues (clause_at clauses (get_or (trail.reasons ++ number ∷ []) (length trail.literals) 0))
            (literal_at (trail.literals ++ l ∷ []) (length trail.literals))) (sym front)
            (subst (λ n. IsUnit trail.literals (clause_at clauses n) (literal_at (trail.literals ++ l ∷ []) (length trail.literals))) (sym reason)
            (subst (λ (m : Literal). IsUnit trail.literals (clause_at clauses number) m) (sym at) unit));
      }

  pub trail_longer : (assumptions : List Literal) → IsTrail clauses assumptions trail → IsTrail clauses assumptions (longer trail l number)
  trail_longer assumptions h =
      let enough : length assumptions ≤ length trail.literals = omega (
        arith,
        ap (λ (xs : List Literal). length xs) h.assumed,
        length-take (length assumptions) trail.literals,
      ) in
      record {
        assumed = take-append-le (length assumptions) trail.literals (l ∷ []) enough ∙ h.assumed;
        behind = h.behind;
        given = λ place within. elim (cases_eq place (length trail.literals)) [
          | inl last ↦ inl (subst (λ k. IsGiven clauses (longer trail l number) k) (sym last) given_last)
          | inr other ↦
              let before : place < length trail.literals = omega (arith, within, other, length_push trail.literals l) in
              let reason : get_or (trail.reasons ++ number ∷ []) place 0 ≡ get_or trail.reasons place 0 =
              get_or_append_left trail.reasons (number ∷ []) 0 place (omega (arith, same, before)) in
              ⊎_elim
              (λ g. inl (given_before clauses trail l number place same before g))
              (λ g. inr (reason ∙ g.0, g.1))
              (h.given place before)
        ];
      }
