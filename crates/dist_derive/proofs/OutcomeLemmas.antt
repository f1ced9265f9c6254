-- What a clause is under true literals, with one more literal.
use Rattle.std.proofs.Common.{◌≡◌, ◌≢◌, List, [], ◌∷◌, ◌++◌, get_or, refl, ap, sym, ◌∙◌, subst, inl, inr}
use Rattle.std.specs.List.{Contains}
use Rattle.std.proofs.lemmas.List.{get_or_default}
use Rattle.std.proofs.lemmas.List.Elements.{All-push, All-weaker, All-contains, Contains-push, Contains-append_left}
use Rattle.dist_clause.specs.Formula.{Literal}
use Rattle.dist_derive.specs.Propagation.{IsFalse, IsUnset, AllFalse, OthersFalse, IsUnit}
use Rattle.dist_derive.specs.TrueLiterals.{HasOutcome}
use Rattle.dist_derive.specs.declared.true_literals.Outcome.TheVariants.{Open}
use Rattle.dist_derive.proofs.LiteralLemmas.{same_or_not, contains_or_not}
use Rattle.dist_derive.proofs.ValuedLemmas.{All-front, All-last}

pub not_unit : (trues clause : List Literal) → AllFalse trues clause → (l : Literal) → ¬ IsUnit trues clause l
not_unit trues clause all l u = u.unset.1 (All-contains (IsFalse trues) clause l all u.member)

-- a literal of a clause is false where it is not the one that is left out
pub other_false : (trues clause : List Literal) (l m : Literal) → OthersFalse trues clause l → Contains clause m → m ≢ l → IsFalse trues m
other_false trues clause l m others here = All-contains (λ x. x ≢ l → IsFalse trues x) clause m others here

pub same_unit : (trues clause : List Literal) (l m : Literal) → IsUnit trues clause l → IsUnit trues clause m → l ≡ m
same_unit trues clause l m u w = elim (same_or_not l m) [
  | inl same ↦ same
  | inr other ↦ absurd (u.unset.1 (other_false trues clause m l w.others u.member other))
]

-- what is false of all literals but one, and of that one, is false of all
pub all_false_with : (trues clause : List Literal) (l : Literal) → OthersFalse trues clause l → IsFalse trues l → AllFalse trues clause
all_false_with trues clause l others this = All-weaker (λ m. m ≢ l → IsFalse trues m) (IsFalse trues)
    (λ m h. elim (same_or_not m l) [ inl same ↦ subst (λ x. IsFalse trues x) (sym same) this | inr other ↦ h other ]) clause others

-- where a clause has no such literal, all its literals are others
pub all_false_without : (trues clause : List Literal) (l : Literal) → OthersFalse trues clause l → (¬ Contains clause l) → AllFalse trues clause
all_false_without trues clause l others out = λ k d within.
    let m = get_or clause k d in
    others k d within (λ e. out (subst (λ x. Contains clause x) e (k, within, get_or_default clause k m d within)))

module _ (trues clause : List Literal) (l : Literal) where
  pub conflict_false : AllFalse trues clause → IsFalse trues l → AllFalse trues (clause ++ l ∷ [])
  conflict_false all this = All-push (IsFalse trues) clause l all this

  pub conflict_unset : AllFalse trues clause → IsUnset trues l → IsUnit trues (clause ++ l ∷ []) l
  conflict_unset all this = record {
    member = Contains-push clause l;
    unset = this;
    others = All-push (λ m. m ≢ l → IsFalse trues m) clause l (All-weaker (IsFalse trues) (λ m. m ≢ l → IsFalse trues m) (λ m f _. f) clause all)
        (λ e. absurd (e refl));
  }

  pub unit_false : (m : Literal) → IsUnit trues clause m → IsFalse trues l → IsUnit trues (clause ++ l ∷ []) m
  unit_false m u this = record {
    member = Contains-append_left clause (l ∷ []) m u.member;
    unset = u.unset;
    others = All-push (λ x. x ≢ m → IsFalse trues x) clause l u.others (λ _. this);
  }

  last_false : (m : Literal) → OthersFalse trues (clause ++ l ∷ []) m → l ≢ m → IsFalse trues l
  last_false m others = All-last (λ x. x ≢ m → IsFalse trues x) clause l others

  pub true_open : Contains trues l → (¬ IsFalse trues l) → HasOutcome trues (clause ++ l ∷ []) Open
  true_open this not_false = (
    λ all. not_false (All-last (IsFalse trues) clause l all),
    λ m u. elim (same_or_not l m) [
      | inl same ↦ u.unset.0 (subst (λ x. Contains trues x) same this)
      | inr other ↦ not_false (last_false m u.others other)
    ],
  )

  pub two_unset_open : (m : Literal) → IsUnit trues clause m → IsUnset trues l → m.variable ≢ l.variable → HasOutcome trues (clause ++ l ∷ []) Open
  two_unset_open m first this apart = (
    λ all. this.1 (All-last (IsFalse trues) clause l all),
    λ x u. elim (same_or_not l x) [
      | inl same ↦ first.unset.1 (other_false trues (clause ++ l ∷ []) x m u.others (Contains-append_left clause (l ∷ []) m first.member)
          (λ e. apart (ap (λ (y : Literal). y.variable) (e ∙ sym same))))
      | inr other ↦ this.1 (last_false x u.others other)
    ],
  )

pub open-append : (trues clause more : List Literal) → HasOutcome trues clause Open → HasOutcome trues (clause ++ more) Open
open-append trues clause more h = (
  λ all. h.0 (All-front (IsFalse trues) clause more all),
  λ l u.
      let others = All-front (λ x. x ≢ l → IsFalse trues x) clause more u.others in
      elim (contains_or_not clause l) [
        | inl here ↦ h.1 l (record { member = here; unset = u.unset; others = others })
        | inr out ↦ h.0 (all_false_without trues clause l others out)
      ],
)
