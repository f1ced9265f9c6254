-- The class of a version in a list of classes.
use Rattle.std.proofs.Common.{◌≡◌, ◌↔◌, ℕ, zero, suc, ◌+◌, ◌<◌, ◌≤◌, get_or, slice_get, List, [], ◌∷◌, length, Option, Some, None, refl, sym, ap, subst, ◌∙◌}
use Rattle.std.proofs.Common.{inl, inr, arith}
use Rattle.std.specs.Prelude.{IsSomeAnd}
use Rattle.std.proofs.lemmas.Bool.{cases_lt}
use Rattle.std.proofs.lemmas.Option.{slice_get-get_or, same_Some}
use Rattle.dist_version.specs.Order.{IsBelow}
use Rattle.dist_classes.specs.Answers.{IsClassList}
use Rattle.dist_classes.specs.ClassList.{HasVersions, IsOfClass, IsOfClassAt, classes_above, classes_of_all}
use Rattle.dist_classes.specs.Cuts.{Rises, RisesFrom}
use Rattle.dist_classes.specs.declared.class_value.Class.{Class}
use Rattle.dist_classes.proofs.ClassLemmas.{above-top, one-class_above, one-class_of_all}

abbrev pub HasNoneBelow : List Class → List ℕ → ℕ → Type 0
HasNoneBelow classes v count = (k : ℕ) → k < count → ¬ IsOfClassAt classes k v

holds-within : (classes : List Class) (v : List ℕ) (k : ℕ) → IsOfClassAt classes k v → k < length classes
holds-within [] v k here = absurd here
holds-within (class ∷ classes) v zero here = omega arith
holds-within (class ∷ classes) v (suc k) here = omega (arith, holds-within classes v k here)

-- no two classes have one version
pub one-holds : (classes : List Class) → IsClassList classes → (v : List ℕ) (i j : ℕ) → IsOfClassAt classes i v → IsOfClassAt classes j v → i ≡ j
one-holds classes list v i j first second = elim list.between [
  | inl above ↦
      let At : ℕ → List Class → Type 0 = λ k list. IsOfClassAt list k v in
      let a = subst (At i) above.are first in
      let b = subst (At j) above.are second in
      let one = one-class_above above.top above.cuts above.rising v (above-top above.top above.cuts above.rising v i a) in
      one.alone i a ∙ sym (one.alone j b)
  | inr all ↦
      let At : ℕ → List Class → Type 0 = λ k list. IsOfClassAt list k v in
      let one = one-class_of_all all.cuts all.rising v in
      one.alone i (subst (At i) all.are first) ∙ sym (one.alone j (subst (At j) all.are second))
]

-- ---- a class was found

pub found-one : (classes : List Class) → IsClassList classes → (v : List ℕ) (n : ℕ) → IsOfClassAt classes n v → (number : ℕ) → (Some n ≡ Some number)
    ↔ IsOfClassAt classes number v
found-one classes list v n here number = (
  (λ is. let same : n ≡ number = cc in let At : ℕ → Type 0 = λ k. IsOfClassAt classes k v in subst At same here),
  λ other. ap (λ k. Some k) (one-holds classes list v n number here other),
)

pub found-above : (classes : List Class) (v : List ℕ) (n : ℕ) → IsOfClassAt classes n v → (top : List ℕ) (cuts : List (List ℕ)) → RisesFrom top cuts
    → classes ≡ classes_above top cuts →
    (Some n ≡ None) ↔ (¬ IsBelow top v)
found-above classes v n here top cuts rising are = (
  (λ is. cc),
  λ not_above. let At : List Class → Type 0 = λ list. IsOfClassAt list n v in absurd (not_above (above-top top cuts rising v n (subst At are here))),
)

-- ---- none was

abbrev none : Option ℕ
none = None

pub missing-one : (classes : List Class) (v : List ℕ) (count : ℕ) → length classes ≤ count → HasNoneBelow classes v count → (number : ℕ) → (none ≡ Some number)
    ↔ IsOfClassAt classes number v
missing-one classes v count past missing number = (
  (λ is. cc),
  λ here. absurd (let short = holds-within classes v number here in missing number (omega arith) here),
)

pub missing-above : (classes : List Class) (v : List ℕ) (count : ℕ) → length classes ≤ count → HasNoneBelow classes v count
    → (top : List ℕ) (cuts : List (List ℕ)) → RisesFrom top cuts → classes ≡ classes_above top cuts →
    (none ≡ None) ↔ (¬ IsBelow top v)
missing-above classes v count past missing top cuts rising are = (
  (λ _ above.
      let one = one-class_above top cuts rising v above in
      let At : List Class → Type 0 = λ list. IsOfClassAt list one.number v in
      let here = subst At (sym are) one.holds in
      let short = holds-within classes v one.number here in
      missing one.number (omega arith) here),
  λ _. refl,
)

pub missing-all : (classes : List Class) (v : List ℕ) (count : ℕ) → length classes ≤ count → HasNoneBelow classes v count → (cuts : List (List ℕ)) → Rises cuts
    → classes ≡ classes_of_all cuts → ⊥
missing-all classes v count past missing cuts rising are =
    let one = one-class_of_all cuts rising v in
    let At : List Class → Type 0 = λ list. IsOfClassAt list one.number v in
    let here = subst At (sym are) one.holds in
    let short = holds-within classes v one.number here in
    missing one.number (omega arith) here

-- ---- the classes so far

pub none-more : (classes : List Class) (v : List ℕ) (count : ℕ) → ¬ IsOfClassAt classes count v → HasNoneBelow classes v count
    → HasNoneBelow classes v (count + 1)
none-more classes v count other missing k below here = elim (cases_lt k count) [
  | inl h ↦ missing k h here
  | inr h ↦ let same : k ≡ count = omega arith in let At : ℕ → Type 0 = λ j. IsOfClassAt classes j v in other (subst At same here)
]

pub holds-at : (classes : List Class) (v : List ℕ) (n : ℕ) (class : Class) → n < length classes → class ≡ get_or classes n class → IsOfClassAt classes n v
    ↔ IsOfClass class v
holds-at classes v n class short is =
    let at : slice_get classes n ≡ Some class = slice_get-get_or classes n class short ∙ ap (λ c. Some c) (sym is) in
    let Here : Option Class → Type 0 = λ o. IsSomeAnd o (λ c. IsOfClass c v) in
    ((λ here. subst Here at here), λ here. subst Here (sym at) here)

-- ---- no class is empty

some-above : (top : List ℕ) (cuts : List (List ℕ)) → RisesFrom top cuts → (k : ℕ) (class : Class) → slice_get (classes_above top cuts) k ≡ Some class
    → HasVersions class
some-above top [] rising zero class is = let P : Class → Type 0 = HasVersions in subst P (same_Some _ _ is) tt
some-above top [] rising (suc k) class is = cc
some-above top (cut ∷ cuts) rising zero class is = let P : Class → Type 0 = HasVersions in subst P (same_Some _ _ is) rising.0
some-above top (cut ∷ cuts) rising (suc zero) class is = let P : Class → Type 0 = HasVersions in subst P (same_Some _ _ is) tt
some-above top (cut ∷ cuts) rising (suc (suc k)) class is = some-above cut cuts rising.1 k class is

some-of_all : (cuts : List (List ℕ)) → Rises cuts → (k : ℕ) (class : Class) → slice_get (classes_of_all cuts) k ≡ Some class → HasVersions class
some-of_all [] rising zero class is = let P : Class → Type 0 = HasVersions in subst P (same_Some _ _ is) tt
some-of_all [] rising (suc k) class is = cc
some-of_all (cut ∷ cuts) rising zero class is = let P : Class → Type 0 = HasVersions in subst P (same_Some _ _ is) tt
some-of_all (cut ∷ cuts) rising (suc zero) class is = let P : Class → Type 0 = HasVersions in subst P (same_Some _ _ is) tt
some-of_all (cut ∷ cuts) rising (suc (suc k)) class is = some-above cut cuts rising k class is

pub all-have : (classes : List Class) → IsClassList classes → (k : ℕ) (class : Class) → slice_get classes k ≡ Some class → HasVersions class
all-have classes list k class is = elim list.between [
  | inl above ↦ some-above above.top above.cuts above.rising k class (ap (λ (c : List Class). slice_get c k) (sym above.are) ∙ is)
  | inr all ↦ some-of_all all.cuts all.rising k class (ap (λ (c : List Class). slice_get c k) (sym all.are) ∙ is)
]
