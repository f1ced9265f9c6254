-- Variables that have a value, and the values of a trail.
use Rattle.std.proofs.Common.{◌≡◌, ◌≢◌, ℕ, ◌-◌, ◌≤◌, inl, inr, Bool, true, false, List, [], ◌∷◌, ◌++◌, length, get_or, set, replicate, refl, ap, sym, subst}
use Rattle.std.proofs.Common.{◌∙◌, arith}
use Rattle.std.specs.List.{All, Contains}
use Rattle.std.proofs.lemmas.Bool.{cases_eq, cases_lt}
use Rattle.std.proofs.lemmas.List.{get_or-set_same, get_or-set_other, get_or-replicate, get_or_past, length-replicate}
use Rattle.std.proofs.lemmas.List.Elements.{Contains-push_cases, Contains-append_left, Contains-push}
use Rattle.dist_clause.specs.Formula.{Literal, literal, value_of}
use Rattle.dist_derive.specs.TrueLiterals.{HasTruth}
use Rattle.dist_derive.specs.declared.true_literals.Truth.{Truth}
use Rattle.dist_derive.specs.declared.true_literals.Truth.TheVariants.{True, False, Unset}
use Rattle.dist_search.specs.StepsPrivate.{IsSet, AreValuesOf}

pub set_of : (trues : List Literal) (v : ℕ) (truth : Truth) → HasTruth trues (literal v false) truth → truth ≢ Unset → IsSet trues v
set_of trues v True h other = inr h.0
set_of trues v False h other = inl h.1
set_of trues v Unset h other = absurd (other refl)

none_true : (n k : ℕ) → get_or (replicate n false) k false ≡ false
none_true n k = elim (cases_lt k n) [
  | inl within ↦ get_or-replicate n k false false within
  | inr past ↦ get_or_past (replicate n false) k false (omega (arith, past, length-replicate n false))
]

pub values_none : (n : ℕ) → AreValuesOf [] (replicate n false)
values_none n = record {
  true_ones = λ l here. absurd (omega (arith, here.1));
  others = λ v one unset. none_true n (v - 1);
}

pub set_by : (trues : List Literal) (l : Literal) → Contains trues l → IsSet trues l.variable
set_by trues l here = at l.positive here
  where
    at : (b : Bool) → Contains trues (literal l.variable b) → IsSet trues l.variable
    at true c = inl c
    at false c = inr c

pub values_more : (trues : List Literal) (values : List Bool) (l : Literal) → 1 ≤ l.variable → l.variable ≤ length values
    → All (λ m. 1 ≤ m.variable) trues → All (λ m. m.variable ≢ l.variable) trues
    → AreValuesOf trues values → AreValuesOf (trues ++ l ∷ []) (set values (l.variable - 1) l.positive)
values_more trues values l one in_range ones apart h = record {
  true_ones = λ m here. elim (Contains-push_cases trues l m here) [
    | inl old ↦ there m.variable (one_of m old) (apart_of m old) ∙ h.true_ones m old
    | inr e ↦ at_one m.variable (ap (λ (x : Literal). x.variable) (sym e)) ∙ ap (λ (x : Literal). x.positive) e
  ];
  others = λ v v_one unset. elim (cases_eq v l.variable) [
    | inl same ↦ absurd (unset (subst (λ w. IsSet (trues ++ l ∷ []) w) (sym same) (set_by (trues ++ l ∷ []) l (Contains-push trues l))))
    | inr other ↦ there v v_one other ∙ h.others v v_one (λ was. unset (still v was))
  ];
}
  where
    at_one : (v : ℕ) → v ≡ l.variable → value_of (set values (l.variable - 1) l.positive) v ≡ l.positive
    at_one v same = ap (λ w. get_or (set values (l.variable - 1) l.positive) (w - 1) false) same
        ∙ get_or-set_same values (l.variable - 1) l.positive false (omega (arith, one, in_range))

    there : (v : ℕ) → 1 ≤ v → v ≢ l.variable → value_of (set values (l.variable - 1) l.positive) v ≡ value_of values v
    there v v_one other = get_or-set_other values (l.variable - 1) (v - 1) l.positive false (λ e. other (omega (arith, e, one, v_one)))

    one_of : (m : Literal) → Contains trues m → 1 ≤ m.variable
    one_of m here = subst (λ (x : Literal). 1 ≤ x.variable) here.2 (ones here.0 m here.1)

    apart_of : (m : Literal) → Contains trues m → m.variable ≢ l.variable
    apart_of m here = subst (λ (x : Literal). x.variable ≢ l.variable) here.2 (apart here.0 m here.1)

    still : (v : ℕ) → IsSet trues v → IsSet (trues ++ l ∷ []) v
    still v (inl c) = inl (Contains-append_left trues (l ∷ []) (literal v true) c)
    still v (inr c) = inr (Contains-append_left trues (l ∷ []) (literal v false) c)
