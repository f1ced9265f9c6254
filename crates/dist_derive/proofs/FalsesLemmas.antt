-- True literals kept as a list and a table of the false ones: one more, and one less.
use Rattle.std.proofs.Common.{◌≡◌, ℕ, ◌<◌, ◌≤◌, ⊎_elim, inl, inr, Bool, true, false, List, [], ◌∷◌, ◌++◌, length, get_or, set}
use Rattle.std.proofs.Common.{refl, ap, sym, subst, ◌∙◌, arith}
use Rattle.std.specs.List.{Contains}
use Rattle.std.proofs.lemmas.Bool.{false≢true, cases_lt}
use Rattle.std.proofs.lemmas.List.{length-set, length_push, get_or-set_same, get_or-set_other, get_or_append_left, get_or_push, get_or_default}
use Rattle.std.proofs.lemmas.List.Elements.{All-push, Contains-push, Contains-push_cases, Contains-append_left}
use Rattle.dist_clause.specs.Formula.{Literal, negation, IsClauseOver}
use Rattle.dist_base.specs.declared.TheConstants.{MAX_VARIABLES}
use Rattle.dist_derive.specs.OccurrencesPrivate.{code_of}
use Rattle.dist_derive.specs.Propagation.{IsUnset, IsConsistent}
use Rattle.dist_derive.specs.TrueLiterals.{AreFalses}
use Rattle.dist_derive.proofs.ValuedLemmas.{not-itself, All-front, All-last}
use Rattle.dist_derive.proofs.LiteralLemmas.{same_or_not, same_code}
use Rattle.dist_derive.proofs.WaitLemmas.{negation-twice}
use Rattle.dist_derive.proofs.HintLaws.{over_push}

-- two literals of one variable stand at one place
same_place : (n : ℕ) (trues : List Literal) → IsClauseOver n trues → (i j : ℕ) (l m : Literal) → i < length trues → j < length trues
    → get_or trues i l ≡ l → get_or trues j m ≡ m → l.variable ≡ m.variable → l ≡ m
same_place n trues over i j l m i_in j_in at_i at_j e =
    let here : get_or trues j l ≡ m = get_or_default trues j l m j_in ∙ at_j in
    let variables : (get_or trues i l).variable ≡ (get_or trues j l).variable =
    ap (λ (x : Literal). x.variable) at_i ∙ (e ∙ ap (λ (x : Literal). x.variable) (sym here)) in
    elim (cases_lt i j) [
      | inl before ↦ absurd (over.distinct i j l before j_in variables)
      | inr not_before ↦ elim (cases_lt j i) [
        | inl behind ↦ absurd (over.distinct j i l behind i_in (sym variables))
        | inr not_behind ↦
            let same : i ≡ j = omega (arith, not_before, not_behind) in
            sym at_i ∙ (ap (λ k. get_or trues k l) same ∙ here)
      ]
    ]

pub over_consistent : (n : ℕ) (trues : List Literal) → IsClauseOver n trues → IsConsistent trues
over_consistent n trues over l h g =
    not-itself l.positive (sym (ap (λ (x : Literal). x.positive) (same_place n trues over h.0 g.0 l (negation l) h.1 g.1 h.2 g.2 refl)))

pub AreFalses-add : (n : ℕ) (trues : List Literal) (falses : List Bool) (capacity more : ℕ) (l : Literal) → AreFalses n trues falses capacity → capacity ≤ more
    → IsUnset trues l → 1 ≤ l.variable → l.variable ≤ n → l.variable ≤ MAX_VARIABLES
    → AreFalses n (trues ++ l ∷ []) (set falses (code_of (negation l)) true) more
AreFalses-add n trues falses capacity more l h larger unset from to to_limit =
    let place = code_of (negation l) in
    let long = length-set falses place true in
    record {
      told = λ m m_from m_to.
          let was = h.told m m_from m_to in (
            omega (arith, was.0, long),
            elim (same_or_not m (negation l)) [
              | inl same ↦ (
                λ _. subst (Contains (trues ++ l ∷ [])) (sym (ap negation same ∙ negation-twice l)) (Contains-push trues l),
                λ _. ap (λ x. get_or (set falses place true) (code_of x) false) same ∙ get_or-set_same falses place true false (h.told (negation l) from to).0,
              )
              | inr other ↦
                  let kept = get_or-set_other falses place (code_of m) true false (λ e. other (same_code m (negation l) e)) in (
                    λ e. Contains-append_left trues (l ∷ []) (negation m) (was.1.0 (sym kept ∙ e)),
                    λ e. kept ∙ was.1.1 (⊎_elim (λ x. x) (λ x. absurd (other (sym (ap negation x ∙ negation-twice m))))
                        (Contains-push_cases trues l (negation m) e)),
                  )
            ],
          );
      over = over_push n trues l h.over (from, to) unset;
      stated = All-push (λ (m : Literal). m.variable ≤ MAX_VARIABLES) trues l h.stated to_limit;
      room = omega (arith, h.room, larger);
    }

pub AreFalses-less : (n : ℕ) (trues : List Literal) (falses : List Bool) (capacity : ℕ) (l : Literal) → AreFalses n (trues ++ l ∷ []) falses capacity
    → AreFalses n trues (set falses (code_of (negation l)) false) capacity
AreFalses-less n trues falses capacity l h =
    let place = code_of (negation l) in
    let long = length-set falses place false in
    let pushed = length_push trues l in
    let range = All-last (λ (m : Literal). (1 ≤ m.variable) × (m.variable ≤ n)) trues l h.over.in_range in
    let out : ¬ Contains trues l = λ g. h.over.distinct g.0 (length trues) l g.1 (omega (arith, pushed))
    (ap (λ (x : Literal). x.variable) (get_or_append_left trues (l ∷ []) l g.0 g.1 ∙ (g.2 ∙ sym (get_or_push trues l l (length trues) refl)))) in
    record {
      told = λ m m_from m_to.
          let was = h.told m m_from m_to in (
            omega (arith, was.0, long),
            elim (same_or_not m (negation l)) [
              | inl same ↦ (
                λ e. absurd (false≢true (sym (ap (λ x. get_or (set falses place false) (code_of x) false) same
                    ∙ get_or-set_same falses place false false (h.told (negation l) range.0 range.1).0) ∙ e)),
                λ e. absurd (out (subst (Contains trues) (ap negation same ∙ negation-twice l) e)),
              )
              | inr other ↦
                  let kept = get_or-set_other falses place (code_of m) false false (λ e. other (same_code m (negation l) e)) in (
                    λ e. ⊎_elim (λ x. x) (λ x. absurd (other (sym (ap negation x ∙ negation-twice m))))
                        (Contains-push_cases trues l (negation m) (was.1.0 (sym kept ∙ e))),
                    λ e. kept ∙ was.1.1 (Contains-append_left trues (l ∷ []) (negation m) e),
                  )
            ],
          );
      over = record {
        in_range = All-front (λ (m : Literal). (1 ≤ m.variable) × (m.variable ≤ n)) trues (l ∷ []) h.over.in_range;
        distinct = λ i j d before within e. h.over.distinct i j d before (omega (arith, pushed))
            (ap (λ (x : Literal). x.variable) (get_or_append_left trues (l ∷ []) d i (omega arith)) ∙ (e
            ∙ sym (ap (λ (x : Literal). x.variable) (get_or_append_left trues (l ∷ []) d j within))));
      };
      stated = All-front (λ (m : Literal). m.variable ≤ MAX_VARIABLES) trues (l ∷ []) h.stated;
      room = h.room;
    }
