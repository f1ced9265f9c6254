-- The order of demands, and the one clause of each.
use Rattle.std.proofs.Common.{◌≡◌, ℕ, Bool, List, ◌∷◌, map, nat_cmp, Ordering, Less, Equal, Greater, refl, sym, ap, subst, ◌∙◌, arith, inl, inr, Some}
use Rattle.std.proofs.Common.{slice_get}
use Rattle.std.specs.Prelude.{IsSomeAnd}
use Rattle.std.specs.Cmp.Lexicographic.{slice_cmp}
use Rattle.std.specs.Ordering.{ordering_reverse}
use Rattle.std.proofs.lemmas.Bool.{cases_lt}
use Rattle.std.proofs.lemmas.Cmp.{nat_list_cmp_total}
use Rattle.dist_base.specs.ListLaws.{element-is, has-at, some-element}
use Rattle.dist_base.specs.RowLaws.{IsAsymmetric, same-numbers}
use Rattle.dist_clause.specs.DemandLaws.{Compared, IsOrderly, goes-on, is_before, is_behind, is_same}
use Rattle.dist_clause.specs.Formula.{Literal}
use Rattle.dist_relation.specs.declared.atom.Atom.{Atom}
use Rattle.dist_repo.specs.PackageList.{PackageList}
use Rattle.dist_repo.specs.declared.package.Package.{Package}
use Rattle.dist_now.specs.PresentClauses.{Demand, Item, Apart, Required, AreNumbersOf, ArePresentClauses, AreClausesBefore, IsBefore, IsClauseFor}
use Rattle.dist_now.specs.PresentClauses.{IsDemand, IsLesser, IsItemAnd, IsMetBy, installed, not_installed, present_demands}
use Rattle.dist_now.specs.PresentLaws.{GoesOn}
use Rattle.dist_now.proofs.NameLemmas.{same_names}

-- ---- the order of demands

lesser-asymmetric : (a b n k : ℕ) → IsLesser a b n k → ¬ IsLesser n k a b
lesser-asymmetric a b n k (inl less) (inl more) = omega arith
lesser-asymmetric a b n k (inl less) (inr more) = omega (arith, more.0)
lesser-asymmetric a b n k (inr less) (inl more) = omega (arith, less.0)
lesser-asymmetric a b n k (inr less) (inr more) = omega (arith, less.1, more.1)

names-asymmetric : (a b : List ℕ) → slice_cmp nat_cmp a b ≡ Less → ¬ (slice_cmp nat_cmp b a ≡ Less)
names-asymmetric a b less more =
    let turned = nat_list_cmp_total.antisymm a b in cc

pub demands-asymmetric : IsAsymmetric IsBefore
demands-asymmetric (Item a b) (Item n k) less more = lesser-asymmetric a b n k less more
demands-asymmetric (Item a b) (Apart n k) less more = more
demands-asymmetric (Item a b) (Required name) less more = more
demands-asymmetric (Apart a b) (Item n k) less more = less
demands-asymmetric (Apart a b) (Apart n k) less more = lesser-asymmetric a b n k less more
demands-asymmetric (Apart a b) (Required name) less more = more
demands-asymmetric (Required a) (Item n k) less more = less
demands-asymmetric (Required a) (Apart n k) less more = less
demands-asymmetric (Required a) (Required b) less more = names-asymmetric a b less more

lesser-trans : (a b m l n k : ℕ) → IsLesser a b m l → IsLesser m l n k → IsLesser a b n k
lesser-trans a b m l n k (inl x) (inl y) = inl (omega arith)
lesser-trans a b m l n k (inl x) (inr y) = inl (omega (arith, y.0))
lesser-trans a b m l n k (inr x) (inl y) = inl (omega (arith, x.0))
lesser-trans a b m l n k (inr x) (inr y) = inr (x.0 ∙ y.0, omega (arith, x.1, y.1))

before-trans : (x e d : Demand) → IsBefore x e → IsBefore e d → IsBefore x d
before-trans (Item a b) (Item m l) (Item n k) first second = lesser-trans a b m l n k first second
before-trans (Item a b) (Item m l) (Apart n k) first second = tt
before-trans (Item a b) (Item m l) (Required name) first second = tt
before-trans (Item a b) (Apart m l) (Item n k) first second = absurd second
before-trans (Item a b) (Apart m l) (Apart n k) first second = tt
before-trans (Item a b) (Apart m l) (Required name) first second = tt
before-trans (Item a b) (Required other) (Item n k) first second = absurd second
before-trans (Item a b) (Required other) (Apart n k) first second = tt
before-trans (Item a b) (Required other) (Required name) first second = tt
before-trans (Apart a b) (Item m l) d first second = absurd first
before-trans (Apart a b) (Apart m l) (Item n k) first second = absurd second
before-trans (Apart a b) (Apart m l) (Apart n k) first second = lesser-trans a b m l n k first second
before-trans (Apart a b) (Apart m l) (Required name) first second = tt
before-trans (Apart a b) (Required other) (Item n k) first second = absurd second
before-trans (Apart a b) (Required other) (Apart n k) first second = absurd second
before-trans (Apart a b) (Required other) (Required name) first second = tt
before-trans (Required a) (Item m l) d first second = absurd first
before-trans (Required a) (Apart m l) d first second = absurd first
before-trans (Required a) (Required other) (Item n k) first second = absurd second
before-trans (Required a) (Required other) (Apart n k) first second = absurd second
before-trans (Required a) (Required other) (Required name) first second = nat_list_cmp_total.trans a other name first second

pairs-compared : (r : PackageList) (make : ℕ → ℕ → Demand) → ((a b n k : ℕ) → IsLesser a b n k → IsBefore (make a b) (make n k)) → (a b n k : ℕ) →
    Compared (present_demands r) (make a b) (make n k)
pairs-compared r make lesser a b n k =
    elim (cases_lt a n) [
      | inl less ↦ is_before (lesser a b n k (inl less))
      | inr more ↦ elim (cases_lt n a) [
        | inl less ↦ is_behind (lesser n k a b (inl less))
        | inr also ↦
            let first : a ≡ n = omega arith in
            elim (cases_lt b k) [
              | inl less ↦ is_before (lesser a b n k (inr (first, less)))
              | inr past ↦ elim (cases_lt k b) [
                | inl less ↦ is_behind (lesser n k a b (inr (sym first, less)))
                | inr most ↦ let second : b ≡ k = omega arith in is_same (λ i. make (first i) (second i))
              ]
            ]
      ]
    ]

names-compared : (r : PackageList) (a b : List ℕ) → Compared (present_demands r) (Required a) (Required b)
names-compared r a b = by (slice_cmp nat_cmp a b) refl
  where
    by : (o : Ordering) → slice_cmp nat_cmp a b ≡ o → Compared (present_demands r) (Required a) (Required b)
    by Less is = is_before is
    by Equal is = is_same (ap (λ (x : List ℕ). Required x) (same_names a b is))
    by Greater is = is_behind (nat_list_cmp_total.antisymm b a ∙ ap ordering_reverse is)

pub compared : (r : PackageList) (d e : Demand) → Compared (present_demands r) d e
compared r (Item a b) (Item n k) = pairs-compared r (λ x y. Item x y) (λ x y z w h. h) a b n k
compared r (Item a b) (Apart n k) = is_before tt
compared r (Item a b) (Required name) = is_before tt
compared r (Apart a b) (Item n k) = is_behind tt
compared r (Apart a b) (Apart n k) = pairs-compared r (λ x y. Apart x y) (λ x y z w h. h) a b n k
compared r (Apart a b) (Required name) = is_before tt
compared r (Required a) (Item n k) = is_behind tt
compared r (Required a) (Apart n k) = is_behind tt
compared r (Required a) (Required b) = names-compared r a b

-- ---- one clause for each demand

-- numbers of the packages with a property are one list
pub one-numbers : (r : PackageList) (P : Package → Type 0) (numbers others : List ℕ) → AreNumbersOf r P numbers → AreNumbersOf r P others → numbers ≡ others
one-numbers r P numbers others are also =
    same-numbers others numbers also.rising are.rising (λ k there. (are.exact k).1 ((also.exact k).0 there))
    (λ k there. (also.exact k).1 ((are.exact k).0 there))

-- the item at a place, and what it has
pub record FoundItem (r : PackageList) (number place : ℕ) (P : Package → List Atom → Type 0) : Type 0 where
  pub package_is : Package
  pub is_package : slice_get r.packages number ≡ Some package_is
  pub item : List Atom
  pub is_item : slice_get package_is.depends place ≡ Some item
  pub holds : P package_is item

pub found-item : (r : PackageList) (number place : ℕ) (P : Package → List Atom → Type 0) → IsItemAnd r number place P → FoundItem r number place P
found-item r number place P here =
    let Q : Package → Type 0 = λ p. IsSomeAnd (slice_get p.depends place) (P p) in
    let p = some-element Q r.packages number here in
    let is_p = element-is Q r.packages number here in
    let inner : Q p = has-at Q r.packages number p is_p here in
    let item = some-element (P p) p.depends place inner in
    let is_item = element-is (P p) p.depends place inner in
    record { package_is = p; is_package = is_p; item = item; is_item = is_item; holds = has-at (P p) p.depends place item is_item inner }

pub one-item : (r : PackageList) (number place : ℕ) (P Q : Package → List Atom → Type 0) (a : FoundItem r number place P) (b : FoundItem r number place Q)
    → a.item ≡ b.item
one-item r number place P Q a b =
    let first = a.is_package in let second = b.is_package in
    let same : a.package_is ≡ b.package_is = cc in
    let third : slice_get b.package_is.depends place ≡ Some a.item = ap (λ (p : Package). slice_get p.depends place) (sym same) ∙ a.is_item in
    let fourth = b.is_item in cc

pub one-clause : (r : PackageList) (d : Demand) (clause other : List Literal) → IsClauseFor r d clause → IsClauseFor r d other → clause ≡ other
one-clause r (Item number place) clause other (numbers, here, is) (others, there, also) =
    let a = found-item r number place (λ p item. AreNumbersOf r (IsMetBy r.architecture item) numbers) here in
    let b = found-item r number place (λ p item. AreNumbersOf r (IsMetBy r.architecture item) others) there in
    let Of : List Atom → Type 0 = λ item. AreNumbersOf r (IsMetBy r.architecture item) numbers in
    let same = one-numbers r (IsMetBy r.architecture b.item) numbers others (subst Of (one-item r number place _ _ a b) a.holds) b.holds in
    is ∙ ap (λ (xs : List ℕ). not_installed number ∷ map installed xs) same ∙ sym also
one-clause r (Apart first second) clause other is also = is ∙ sym also
one-clause r (Required name) clause other (numbers, are, is) (others, more, also) =
    is ∙ ap (λ (xs : List ℕ). map installed xs) (one-numbers r (λ p. p.name ≡ name) numbers others are more) ∙ sym also

-- a demand and its clause
abbrev pub Row : Type 0
Row = Demand × List Literal

pub orderly : (r : PackageList) → IsOrderly (present_demands r)
orderly r = record { asymmetric = demands-asymmetric; transitive = before-trans; one_clause = one-clause r }

pub goes-on-of : (r : PackageList) (essential : Bool) (d : Demand) (whole front : List (List Literal)) (clause : List Literal)
    → ArePresentClauses r essential whole → AreClausesBefore r essential d front
    → IsDemand r essential d → IsClauseFor r d clause → GoesOn whole front clause
goes-on-of r essential d = goes-on (present_demands r) (orderly r) (IsDemand r essential) d
