-- The model of meanings that meet the demands of a space, and of those that a healthy installation of a future gives.
use Rattle.std.proofs.Common.{◌≡◌, ℕ, Bool, true, false, List, Option, Some, None, Ordering, Less, Equal, Greater, length, map, refl, sym, ap, subst, ◌∙◌, inl}
use Rattle.std.proofs.Common.{inr, arith, slice_get}
use Rattle.std.specs.Prelude.{Any, Contains, slice_index}
use Rattle.std.proofs.lemmas.Bool.{cases_lt}
use Rattle.std.proofs.lemmas.List.{length-map}
use Rattle.std.proofs.lemmas.Option.{same_Some}
use Rattle.dist_base.specs.ListLaws.{any-contained}
use Rattle.dist_version.specs.Order.{version_cmp}
use Rattle.dist_clause.specs.Formula.{Literal, IsModel, value_of}
use Rattle.dist_repo.specs.DecidedLaws.{any-decided, both-decided, equal-decided, IsDecided, same-as, some-decided, text-decided}
use Rattle.dist_repo.specs.EqualityPrivate.{package_eq, packages_decide}
use Rattle.dist_repo.specs.PackageList.{IsPackageAnd}
use Rattle.dist_repo.specs.declared.package.Package.{Package}
use Rattle.dist_classes.specs.ClassList.{IsOfClass, IsOfClassAt}
use Rattle.dist_classes.specs.declared.class_value.Class.{Class}
use Rattle.dist_classes.specs.declared.class_value.Class.TheVariants.{Point, Between, Above, Below}
use Rattle.dist_classes.specs.declared.class_value.Class.TheVariants as class
use Rattle.dist_space.specs.Space.{IsMeaning, IsSpace, SpaceView, fresh_classes}
use Rattle.dist_space_clauses.specs.SpaceClauses.{AreSpaceClauses}
use Rattle.dist_space.specs.declared.meaning.Meaning.{Meaning}
use Rattle.dist_space.specs.declared.meaning.Meaning.TheVariants.{Now, Present, At, New, Kept, Fresh}
use Rattle.dist_future.proofs.ClassMatch.{ClassLaws}
use Rattle.dist_future.proofs.DemandLemmas.{AreMet, IsTrueMeaning, met-alike, model-from-met}
use Rattle.dist_future.proofs.FutureToModel.{Holds, IsNamedIn, IsSeen, kept_of, met-by-future}
use Rattle.dist_space.specs.VariableLaws.{value-at}

-- ---- what is decided

pub answer : {P : Type 0} → IsDecided P → Bool
answer (inl p) = true
answer (inr never) = false

pub answer-from : {P : Type 0} (d : IsDecided P) → answer d ≡ true → P
unfolding answer
answer-from (inl p) is = p
answer-from (inr never) is = cc

pub answer-true : {P : Type 0} (d : IsDecided P) → P → answer d ≡ true
unfolding answer
answer-true (inl p) holds = refl
answer-true (inr never) holds = absurd (never holds)

pub number-decided : (n k : ℕ) → IsDecided (n ≡ k)
number-decided n k = elim (cases_lt n k) [
  | inl less ↦ inr (λ same. omega (arith, less, same))
  | inr more ↦ elim (cases_lt k n) [
    | inl less ↦ inr (λ same. omega (arith, less, same))
    | inr also ↦ inl (omega (arith, more, also))
  ]
]

option-decided : (o : Option ℕ) (k : ℕ) → IsDecided (o ≡ Some k)
option-decided None k = inr (λ h. cc)
option-decided (Some n) k = same-as (λ h. ap (λ (x : ℕ). Some x) h) (same_Some n k) (number-decided n k)

flag-decided : (o : Option Bool) → IsDecided (o ≡ Some true)
flag-decided None = inr (λ h. cc)
flag-decided (Some true) = inl refl
flag-decided (Some false) = inr (λ h. cc)

less-decided : (o : Ordering) → IsDecided (o ≡ Less)
less-decided Less = inl refl
less-decided Equal = inr (λ h. cc)
less-decided Greater = inr (λ h. cc)

class-decided : (class : Class) (v : List ℕ) → IsDecided (IsOfClass class v)
class-decided (Point c) v = equal-decided (version_cmp v c)
class-decided (Between a b) v = both-decided (less-decided (version_cmp a v)) (less-decided (version_cmp v b))
class-decided (Above a) v = less-decided (version_cmp a v)
class-decided (Below b) v = less-decided (version_cmp v b)
class-decided class.Any v = inl tt

class_at-decided : (classes : List Class) (k : ℕ) (v : List ℕ) → IsDecided (IsOfClassAt classes k v)
class_at-decided classes k v = some-decided (λ class. IsOfClass class v) (λ class. class-decided class v) (slice_get classes k)

package-decided : (p q : Package) → IsDecided (p ≡ q)
package-decided p q = by (package_eq p q) refl
  where
    by : (b : Bool) → package_eq p q ≡ b → IsDecided (p ≡ q)
    by true is = inl ((packages_decide p q).0 is)
    by false is = inr (λ h. let other = (packages_decide p q).1 h in cc)

pub contains-decided : (xs : List Package) (p : Package) → IsDecided (Contains xs p)
contains-decided xs p =
    same-as (λ any. subst (λ (x : Package). Contains xs x) any.4 (any.0, any.2, any.3)) (λ there. any-contained (λ (q : Package). q ≡ p) xs p there refl)
    (any-decided (λ (q : Package). q ≡ p) (λ q. package-decided q p) xs)

-- ---- the model of what meets the demands

-- a model of the clauses that makes true exactly what holds
pub record ModelOf (s : SpaceView) (clauses : List (List Literal)) (T : Meaning → Type 0) : Type 0 where
  pub values : List Bool
  pub one_each : length values ≡ length s.meanings
  pub model : IsModel (value_of values) clauses
  pub holds : (m : Meaning) → IsMeaning s m → T m → IsTrueMeaning s values m
  pub only : (m : Meaning) → IsMeaning s m → IsTrueMeaning s values m → T m

module _ (s : SpaceView) (space : IsSpace s) (T : Meaning → Type 0) (decided : (m : Meaning) → IsDecided (T m)) where
  value : Meaning → Bool
  value m = answer (decided m)

  pub decided-model : AreMet s T → (clauses : List (List Literal)) → AreSpaceClauses s clauses → ModelOf s clauses T
  unfolding value
  decided-model met clauses are =
      let values : List Bool = map value s.meanings in
      let to : (m : Meaning) → IsMeaning s m → T m → IsTrueMeaning s values m =
      λ m is_meaning holds. value-at s value m space is_meaning ∙ answer-true (decided m) holds in
      let back : (m : Meaning) → IsMeaning s m → IsTrueMeaning s values m → T m =
      λ m is_meaning is. answer-from (decided m) (sym (value-at s value m space is_meaning) ∙ is) in
      record {
        values = values;
        one_each = length-map s.meanings value;
        model = model-from-met s values clauses are (met-alike s T (IsTrueMeaning s values) to back met);
        holds = to;
        only = back;
      }

-- ---- that of a future

module _ (laws : ClassLaws) (s : SpaceView) (space : IsSpace s) (future members : List Package) (N : Type 0) (fate : ℕ → Option ℕ)
    (seen : IsSeen s future members N fate) where
  named-decided : (r : ℕ) → IsDecided (IsPackageAnd s.repository.packages r (λ p. IsNamedIn members p.name))
  named-decided r =
      some-decided (λ (p : Package). IsNamedIn members p.name) (λ p. any-decided (λ (n : Package). n.name ≡ p.name) (λ n. text-decided n.name p.name) members)
      (slice_get s.repository.packages r)

  holds-decided : (m : Meaning) → IsDecided (Holds laws s space future members N fate seen m)
  holds-decided Now = seen.now
  holds-decided (Present r) = some-decided (λ (p : Package). Contains members p) (λ p. contains-decided members p) (slice_get s.repository.packages r)
  holds-decided (At c k) = option-decided (fate c) k
  holds-decided (New r k) = both-decided (option-decided (fate (slice_index s.cluster_of r)) k) (named-decided r)
  holds-decided (Kept r k j) =
      same-as (λ h. (h.0.0, h.0.1, h.1)) (λ h. ((h.0, h.1), h.2))
      (both-decided (both-decided (option-decided (fate (slice_index s.cluster_of r)) k) (named-decided r))
      (flag-decided (slice_get (kept_of laws s space future members N fate seen r) j)))
  holds-decided (Fresh x k) =
      some-decided (λ (name : List ℕ). Any (λ (n : Package). (n.name ≡ name) × IsOfClassAt (fresh_classes s x) k n.version) members)
      (λ name. any-decided (λ (n : Package). (n.name ≡ name) × IsOfClassAt (fresh_classes s x) k n.version)
      (λ n. both-decided (text-decided n.name name) (class_at-decided (fresh_classes s x) k n.version)) members)
      (slice_get s.names x)

  pub future-model : (clauses : List (List Literal)) → AreSpaceClauses s clauses → ModelOf s clauses (Holds laws s space future members N fate seen)
  future-model clauses are =
      decided-model s space (Holds laws s space future members N fate seen) holds-decided (met-by-future laws s space future members N fate seen) clauses are
