-- Marks of names: a name whose mark is not set is none of the marked ones.
use Rattle.std.proofs.Common.{◌≡◌, ℕ, ◌<◌, Bool, true, false, ◌||◌, ◌==◌, List, [], ◌∷◌, ◌++◌, Option, Some, None, length, take, find, is_some, get_or, refl}
use Rattle.std.proofs.Common.{sym, ap, ◌∙◌, arith, inl, inr}
use Rattle.std.proofs.Math.ListN.{set}
use Rattle.std.specs.List.{list_any}
use Rattle.std.proofs.lemmas.Bool.{both_ways, cases_Bool, eqb-true, eqb-false}
use Rattle.std.proofs.lemmas.List.{get_or-set_same, get_or-set_other, length-set}
use Rattle.std.proofs.lemmas.Slice.Eq.{bytes_eq-Decides}
use Rattle.dist_control.specs.FieldText.{FieldText}
use Rattle.dist_control.specs.Fields.{folded, is_same_name}
use Rattle.dist_control.specs.declared.field_list.TheConstants.{EARLY_FIELDS}
use Rattle.dist_control.specs.declared.marks.TheConstants.{MARKS}
use Rattle.dist_control.specs.Pieces.{mark_of, AreSet, AreMarked}
use Rattle.dist_control.proofs.NameLemmas.{any-found, some-found}

module _ (name : List ℕ) where
  abbrev IsOf : FieldText → Bool
  IsOf field = is_same_name name field.name

  pub unmarked : (marks : List Bool) (fields : List FieldText) → AreSet marks fields → get_or marks (mark_of (folded name)) false ≡ false →
      list_any IsOf fields ≡ false
  unmarked marks [] are free = refl
  unmarked marks (field ∷ fields) are free =
      elim (cases_Bool (is_same_name name field.name)) [
        | inl same ↦
            let one = (bytes_eq-Decides (folded name) (folded field.name)).0 same in
            absurd (both_ways _ free (ap (λ (n : List ℕ). get_or marks (mark_of n) false) one ∙ are.0))
        | inr other ↦ ap (λ b. b || list_any IsOf fields) other ∙ unmarked marks fields are.1 free
      ]

  -- a name that no field has is no early one's
  pub early-none : (fields : List FieldText) → list_any IsOf fields ≡ false → false ≡ list_any IsOf (take EARLY_FIELDS fields)
  early-none fields none =
      elim (cases_Bool (list_any IsOf (take EARLY_FIELDS fields))) [
        | inl some ↦ absurd (both_ways _ none (any-found name fields some))
        | inr none ↦ sym none
      ]

  nothing : (found : Option FieldText) → is_some found ≡ false → None ≡ found
  nothing None none = refl
  nothing (Some field) some = absurd (both_ways true some refl)

  pub not-found : (fields : List FieldText) → list_any IsOf fields ≡ false → None ≡ find IsOf fields
  not-found fields none = nothing (find IsOf fields) (some-found name fields ∙ none)

keeps : (marks : List Bool) (place other : ℕ) → place < length marks → get_or marks other false ≡ true → get_or (set marks place true) other false ≡ true
keeps marks place other within was =
    elim (cases_Bool (other == place)) [
      | inl same ↦ ap (λ k. get_or (set marks place true) k false) (eqb-true other place same) ∙ get_or-set_same marks place true false within
      | inr apart ↦ get_or-set_other marks place other true false (eqb-false other place apart) ∙ was
    ]

set-more : (marks : List Bool) (fields : List FieldText) (field : FieldText) (place : ℕ) → AreSet marks fields → place ≡ mark_of (folded field.name) →
    place < length marks → AreSet (set marks place true) (fields ++ field ∷ [])
set-more marks [] field place are is within =
    (ap (λ k. get_or (set marks place true) k false) (sym is) ∙ get_or-set_same marks place true false within, tt)
set-more marks (first ∷ fields) field place are is within =
    (keeps marks place (mark_of (folded first.name)) within are.0, set-more marks fields field place are.1 is within)

-- one more field, whose mark is set
pub marks-push : (marks : List Bool) (fields : List FieldText) (field : FieldText) (place : ℕ) → AreMarked marks fields → place ≡ mark_of (folded field.name) →
    place < MARKS → AreMarked (set marks place true) (fields ++ field ∷ [])
marks-push marks fields field place are is within = record {
  size = length-set marks place true ∙ are.size;
  set = set-more marks fields field place are.set is (omega (arith, are.size));
}
