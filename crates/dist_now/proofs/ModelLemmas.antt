-- The models of the clauses of the present are the healthy installations.
use Rattle.std.proofs.Common.{◌≡◌, ◌≢◌, ◌⊎◌, ℕ, zero, suc, ◌+◌, ◌-◌, ◌<◌, Bool, true, false, List, [], ◌∷◌, length, get_or, map, Some, Equal, refl, sym, ap}
use Rattle.std.proofs.Common.{subst, ◌∙◌, arith, inl, inr, slice_get}
use Rattle.std.specs.Prelude.{All, Any, Contains, IsSomeAnd, filter}
use Rattle.std.specs.List.{list_any}
use Rattle.std.proofs.lemmas.Bool.{false≢true}
use Rattle.std.proofs.lemmas.List.{length-map}
use Rattle.std.proofs.lemmas.List.Elements.{All-contains, All-map}
use Rattle.std.proofs.lemmas.Map.Views.{list_any-from_Contains, Contains-from_any}
use Rattle.std.proofs.lemmas.Option.{get_or_from_slice_get}
use Rattle.dist_base.specs.Least.{IsNoPair}
use Rattle.dist_base.specs.ListLaws.{all-contained, any-cases, any-contained, any-head, any-later, any-more, any-there, at-has, at-more, contains-at}
use Rattle.dist_base.specs.ListLaws.{element-is, has-at, pair-from, place-of, some-element}
use Rattle.dist_version.specs.Order.{version_cmp}
use Rattle.dist_version.specs.OrderLaws.{version_cmp-same}
use Rattle.dist_clause.specs.Formula.{Literal, IsTrueLiteral, MakesTrue, IsModel, value_of}
use Rattle.dist_relation.specs.EqualityPrivate.{equivalence}
use Rattle.dist_relation.specs.declared.atom.Atom.{Atom}
use Rattle.dist_repo.specs.Conflict.{AreInConflict}
use Rattle.dist_repo.specs.DecidedLaws.{any-decided, matches-decided}
use Rattle.dist_repo.specs.EqualityPrivate.{package_eq, packages_decide}
use Rattle.dist_repo.specs.Healthy.{IsMet, required_names}
use Rattle.dist_repo.specs.Match.{Matches}
use Rattle.dist_repo.specs.Order.{IsInOrder}
use Rattle.dist_repo.specs.PackageList.{PackageList, IsPackageAnd}
use Rattle.dist_repo.specs.Strong.{IsInstallation}
use Rattle.dist_repo.specs.declared.package.Package.{Package}
use Rattle.dist_now.specs.Health.{AreMembers, IsUnmetAt, IsMissing}
use Rattle.dist_now.specs.Members.{members_of}
use Rattle.dist_now.specs.PresentClauses.{Demand, Item, Apart, Required, AreClausesOf, AreNumbersOf, ArePresentClauses, IsClauseFor, IsDemand, IsMetBy}
use Rattle.dist_now.specs.PresentClauses.{installed, not_installed}
use Rattle.dist_now.specs.PresentLaws.{AreModelsInstallations, AreSamePackages, IsModelOf}
use Rattle.dist_now.proofs.HealthyLemmas.{all-before_map, all-members, all-passed, healthy-from, passed-at}
use Rattle.dist_now.proofs.MemberLemmas.{member-any}
use Rattle.dist_now.proofs.ConflictLemmas.{never-same}
use Rattle.dist_now.proofs.DemandLists.{Row, found-item, one-item}
use Rattle.dist_now.proofs.SetLemmas.{apart-back, names-back}

-- ---- values and literals

value-at : (values : List Bool) (n : ℕ) → value_of values (n + 1) ≡ get_or values n false
value-at values n = let e : n + 1 - 1 ≡ n = omega arith in ap (λ (k : ℕ). get_or values k false) e

flag-from : (values : List Bool) (n : ℕ) → get_or values n false ≡ true → slice_get values n ≡ Some true
flag-from [] n is = cc
flag-from (b ∷ values) zero is = ap (λ (x : Bool). Some x) is
flag-from (b ∷ values) (suc n) is = flag-from values n is

flag-at : (values : List Bool) (n : ℕ) → slice_get values n ≡ Some true → get_or values n false ≡ true
flag-at values n is = get_or_from_slice_get values n true false is

pub installed-from : (values : List Bool) (n : ℕ) → IsTrueLiteral (value_of values) (installed n) → slice_get values n ≡ Some true
installed-from values n holds = flag-from values n (sym (value-at values n) ∙ holds)

pub installed-true : (values : List Bool) (n : ℕ) → slice_get values n ≡ Some true → IsTrueLiteral (value_of values) (installed n)
installed-true values n is = value-at values n ∙ flag-at values n is

pub absent-not : (values : List Bool) (n : ℕ) → IsTrueLiteral (value_of values) (not_installed n) → ¬ (slice_get values n ≡ Some true)
absent-not values n holds is = false≢true (sym holds ∙ installed-true values n is)

pub absent-true : (values : List Bool) (n : ℕ) → ¬ (slice_get values n ≡ Some true) → IsTrueLiteral (value_of values) (not_installed n)
absent-true values n none = by (get_or values n false) refl
  where
    by : (b : Bool) → get_or values n false ≡ b → IsTrueLiteral (value_of values) (not_installed n)
    by true is = absurd (none (flag-from values n is))
    by false is = value-at values n ∙ is

-- one of the numbers whose package is installed
pub record SomeInstalled (values : List Bool) (numbers : List ℕ) : Type 0 where
  pub number : ℕ
  pub there : Contains numbers number
  pub is : slice_get values number ≡ Some true

contains-later : (xs : List ℕ) (x k : ℕ) → Contains xs k → Contains (x ∷ xs) k
contains-later xs x k there = (suc there.0, omega (arith, there.1), there.2)

pub some-installed : (values : List Bool) (numbers : List ℕ) → MakesTrue (value_of values) (map installed numbers) → SomeInstalled values numbers
some-installed values [] any = absurd (omega (arith, any.2))
some-installed values (n ∷ numbers) any =
    elim (any-cases (IsTrueLiteral (value_of values)) (installed n) (map installed numbers) any) [
      | inl here ↦ record { number = n; there = (0, omega arith, refl); is = installed-from values n here }
      | inr later ↦ let some = some-installed values numbers later in
          record { number = some.number; there = contains-later numbers n some.number some.there; is = some.is }
    ]

contains-cases : (xs : List ℕ) (x k : ℕ) → Contains (x ∷ xs) k → (x ≡ k) ⊎ Contains xs k
contains-cases xs x k there = at there.0 there.1 there.2
  where
    at : (i : ℕ) → i < length (x ∷ xs) → get_or (x ∷ xs) i k ≡ k → (x ≡ k) ⊎ Contains xs k
    at zero short is = inl is
    at (suc i) short is = inr (i, omega arith, is)

pub true-installed : (values : List Bool) (numbers : List ℕ) (n : ℕ) → Contains numbers n → slice_get values n ≡ Some true
    → MakesTrue (value_of values) (map installed numbers)
true-installed values [] n there is = absurd (omega (arith, there.1))
true-installed values (k ∷ numbers) n there is =
    elim (contains-cases numbers k n there) [
      | inl same ↦ any-head (IsTrueLiteral (value_of values)) (installed k) (map installed numbers)
          (installed-true values k (ap (λ (i : ℕ). slice_get values i) same ∙ is))
      | inr later ↦ any-later (IsTrueLiteral (value_of values)) (installed k) (map installed numbers) (true-installed values numbers n later is)
    ]

-- ---- required names

pub required-from : (packages : List Package) (n : ℕ) (p : Package) → slice_get packages n ≡ Some p → p.essential ≡ true
    → Contains (required_names true packages) p.name
required-from packages n p is essential =
    let Named : Package → Type 0 = λ q. Contains (required_names true packages) q.name in
    passed-at (λ q. q.essential) Named packages
    (all-before_map (Contains (required_names true packages)) (λ q. q.name) (filter (λ q. q.essential) packages)
    (all-contained (Contains (required_names true packages)) (required_names true packages) (λ name there. there)))
    n p is essential

-- an essential package of a name
abbrev pub IsEssentialOf : List ℕ → Package → Type 0
IsEssentialOf name p = (p.essential ≡ true) × (p.name ≡ name)

pub record SomeEssential (packages : List Package) (name : List ℕ) : Type 0 where
  pub number : ℕ
  pub has : IsPackageAnd packages number (IsEssentialOf name)

pub required-at : (packages : List Package) (name : List ℕ) → Contains (required_names true packages) name → SomeEssential packages name
required-at packages name there =
    All-contains (SomeEssential packages) (required_names true packages) name
    (All-map (SomeEssential packages) (λ q. q.name) (filter (λ q. q.essential) packages)
    (all-passed (λ q. q.essential) (λ q. SomeEssential packages q.name) packages
    (λ k p is essential. record { number = k; has = at-has (IsEssentialOf p.name) packages k p is (essential, refl) })))
    there

-- ---- a model is a healthy installation

-- the clause of a demand, which a model makes true
record TrueClause (r : PackageList) (values : List Bool) (d : Demand) : Type 0 where
  clause : List Literal
  is_clause : IsClauseFor r d clause
  holds : MakesTrue (value_of values) clause

true-clause : (r : PackageList) (P : Demand → Type 0) (clauses : List (List Literal)) (values : List Bool) (d : Demand) → AreClausesOf r P clauses
    → IsModel (value_of values) clauses → P d → TrueClause r values d
true-clause r P clauses values d are model here =
    let any : Any (λ (a : Row). a.0 ≡ d) are.rows = (are.exact d).1 here in
    let Made : Row → Type 0 = λ a. IsClauseFor r a.0 a.1 in
    let True : List Literal → Type 0 = MakesTrue (value_of values) in
    let each : All (λ (a : Row). True a.1) are.rows = all-before_map True (λ (a : Row). a.1) are.rows
    (subst (λ (xs : List (List Literal)). All True xs) are.are model) in
    let For : Demand → Type 0 = λ e. IsClauseFor r e any.1.1 in
    record {
      clause = any.1.1;
      is_clause = subst For any.4 (subst Made any.3 (are.each any.0 any.1 any.2));
      holds = subst (λ (a : Row). True a.1) any.3 (each any.0 any.1 any.2);
    }

never-both : (values : List Bool) (n k : ℕ) → MakesTrue (value_of values) (not_installed n ∷ not_installed k ∷ []) → slice_get values n ≡ Some true
    → slice_get values k ≡ Some true → ⊥
never-both values n k holds first second =
    elim (any-cases (IsTrueLiteral (value_of values)) (not_installed n) (not_installed k ∷ []) holds) [
      | inl here ↦ absent-not values n here first
      | inr later ↦ elim (any-cases (IsTrueLiteral (value_of values)) (not_installed k) [] later) [
        | inl here ↦ absent-not values k here second
        | inr none ↦ omega (arith, none.2)
      ]
    ]

-- no two members are apart from one another
none-apart : (r : PackageList) (essential : Bool) (clauses : List (List Literal)) (values : List Bool) → ArePresentClauses r essential clauses
    → IsModel (value_of values) clauses
    → (R : Package → Package → Type 0) → ((p q : Package) → R p q → (p.name ≡ q.name) ⊎ AreInConflict r.architecture p q) → IsNoPair (AreMembers r values R)
none-apart r essential clauses values are model R apart n k members =
    let Second : Package → Type 0 = λ p. IsPackageAnd r.packages k (R p) in
    let Either : Package → Package → Type 0 = λ p q. (p.name ≡ q.name) ⊎ AreInConflict r.architecture p q in
    let demand : IsDemand r essential (Apart n k) = (
      members.in_order,
      at-more Second (λ p. IsPackageAnd r.packages k (Either p)) (λ p here. at-more (R p) (Either p) (apart p) r.packages k here) r.packages n
          members.related.has,
    ) in
    let made = true-clause r (IsDemand r essential) clauses values (Apart n k) are model demand in
    never-both values n k (subst (MakesTrue (value_of values)) made.is_clause made.holds) members.related.member members.second_member

-- a member meets an item that is met by one of some installed packages
pub met-by-installed : (r : PackageList) (values : List Bool) (numbers : List ℕ) (item : List Atom) → AreNumbersOf r (IsMetBy r.architecture item) numbers
    → SomeInstalled values numbers
    → IsMet r.architecture (members_of r.packages values) item
met-by-installed r values numbers item are some =
    let By : Package → Type 0 = IsMetBy r.architecture item in
    let here : IsPackageAnd r.packages some.number By = (are.exact some.number).0 some.there in
    let q = some-element By r.packages some.number here in
    let is_q = element-is By r.packages some.number here in
    let by : IsMetBy r.architecture item q = has-at By r.packages some.number q is_q here in
    any-more (λ atom. Matches r.architecture atom q) (λ atom. Any (Matches r.architecture atom) (members_of r.packages values))
    (λ atom matches. member-any (Matches r.architecture atom) r.packages values some.number some.is
    (at-has (Matches r.architecture atom) r.packages some.number q is_q matches)) item by

none-unmet : (r : PackageList) (essential : Bool) (clauses : List (List Literal)) (values : List Bool) → ArePresentClauses r essential clauses
    → IsModel (value_of values) clauses → IsNoPair (IsUnmetAt r values)
none-unmet r essential clauses values are model n k unmet =
    let Unmet : Package → List Atom → Type 0 = λ p item. ¬ IsMet r.architecture (members_of r.packages values) item in
    let at = found-item r n k Unmet unmet.has in
    elim (any-decided (λ atom. Matches r.architecture atom at.package_is) (λ atom. matches-decided r.architecture atom at.package_is) at.item) [
      | inl itself ↦ at.holds (any-more (λ atom. Matches r.architecture atom at.package_is)
          (λ atom. Any (Matches r.architecture atom) (members_of r.packages values))
          (λ atom matches. member-any (Matches r.architecture atom) r.packages values n unmet.member
          (at-has (Matches r.architecture atom) r.packages n at.package_is at.is_package matches)) at.item itself)
      | inr other ↦
          let Other : Package → List Atom → Type 0 = λ p item. ¬ IsMetBy r.architecture item p in
          let Holder : Package → Type 0 = λ p. IsSomeAnd (slice_get p.depends k) (Other p) in
          let demand : IsDemand r essential (Item n k) = at-has Holder r.packages n at.package_is at.is_package
          (at-has (Other at.package_is) at.package_is.depends k at.item at.is_item other) in
          let made = true-clause r (IsDemand r essential) clauses values (Item n k) are model demand in
          let numbers : List ℕ = made.is_clause.0 in
          let Numbers : Package → List Atom → Type 0 = λ p item. AreNumbersOf r (IsMetBy r.architecture item) numbers in
          let also = found-item r n k Numbers made.is_clause.1 in
          let Of : List Atom → Type 0 = λ item. AreNumbersOf r (IsMetBy r.architecture item) numbers in
          let of : AreNumbersOf r (IsMetBy r.architecture at.item) numbers = subst Of (one-item r n k Numbers Unmet also at) also.holds in
          elim (any-cases (IsTrueLiteral (value_of values)) (not_installed n) (map installed numbers)
          (subst (MakesTrue (value_of values)) made.is_clause.2 made.holds)) [
            | inl absent ↦ absent-not values n absent unmet.member
            | inr some ↦ at.holds (met-by-installed r values numbers at.item of (some-installed values numbers some))
          ]
    ]

none-missing : (r : PackageList) (essential : Bool) (clauses : List (List Literal)) (values : List Bool) → ArePresentClauses r essential clauses
    → IsModel (value_of values) clauses → essential ≡ true → (n : ℕ) → ¬ IsMissing r values n
none-missing r false clauses values are model is n missing = false≢true is
none-missing r true clauses values are model is n missing =
    let Lost : Package → Type 0 = λ p. (p.essential ≡ true) × (¬ Any (λ q. q.name ≡ p.name) (members_of r.packages values)) in
    let p = some-element Lost r.packages n missing in
    let is_p = element-is Lost r.packages n missing in
    let lost : Lost p = has-at Lost r.packages n p is_p missing in
    let made = true-clause r (IsDemand r true) clauses values (Required p.name) are model (required-from r.packages n p is_p lost.0) in
    let numbers : List ℕ = made.is_clause.0 in
    let some = some-installed values numbers (subst (MakesTrue (value_of values)) made.is_clause.2 made.holds) in
    lost.1 (member-any (λ q. q.name ≡ p.name) r.packages values some.number some.is ((made.is_clause.1.exact some.number).0 some.there))

model-healthy : (r : PackageList) (essential : Bool) (clauses : List (List Literal)) → ArePresentClauses r essential clauses → (values : List Bool)
    → IsModelOf r clauses values → IsInstallation essential r (members_of r.packages values)
model-healthy r essential clauses are values model =
    healthy-from r values essential
    (none-apart r essential clauses values are model.model (λ p q. p.name ≡ q.name) (λ p q same. inl same))
    (none-unmet r essential clauses values are model.model)
    (none-apart r essential clauses values are model.model (AreInConflict r.architecture) (λ p q conflict. inr conflict))
    (none-missing r essential clauses values are model.model)

-- ---- a healthy installation is a model

-- one truth value for each package: whether the list has it
has : List Package → Package → Bool
has members p = list_any (package_eq p) members

pub values_for : List Package → List Package → List Bool
unfolding has
values_for packages members = map (has members) packages

has-from : (members : List Package) (p : Package) → Contains members p → has members p ≡ true
unfolding has
has-from members p there = list_any-from_Contains (equivalence packages_decide) p members there

from-has : (members : List Package) (p : Package) → has members p ≡ true → Contains members p
unfolding has
from-has members p is = Contains-from_any (λ x y same. (packages_decide x y).0 same) p members is

value-from : (packages members : List Package) (n : ℕ) (p : Package) → slice_get packages n ≡ Some p → Contains members p
    → slice_get (values_for packages members) n ≡ Some true
unfolding values_for
value-from [] members n p is there = cc
value-from (q ∷ packages) members zero p is there = let same : q ≡ p = cc in
    ap (λ (b : Bool). Some b) (has-from members q (subst (Contains members) (sym same) there))
value-from (q ∷ packages) members (suc n) p is there = value-from packages members n p is there

from-value : (packages members : List Package) (n : ℕ) (p : Package) → slice_get packages n ≡ Some p → slice_get (values_for packages members) n ≡ Some true
    → Contains members p
unfolding values_for
from-value [] members n p is holds = cc
from-value (q ∷ packages) members zero p is holds = let same : q ≡ p = cc in let answer : has members q ≡ true = cc in
    subst (Contains members) same (from-has members q answer)
from-value (q ∷ packages) members (suc n) p is holds = from-value packages members n p is holds

-- a package that some member is, at its number
record MemberAt (r : PackageList) (members : List Package) (P : Package → Type 0) : Type 0 where
  number : ℕ
  is : slice_get (values_for r.packages members) number ≡ Some true
  has : IsPackageAnd r.packages number P

member-at : (r : PackageList) (members : List Package) → All (Contains r.packages) members → (P : Package → Type 0) → Any P members → MemberAt r members P
member-at r members chosen P any =
    let there = any-there P members any in
    let place = place-of r.packages any.1 (All-contains (Contains r.packages) members any.1 chosen there) in
    record {
      number = place.place;
      is = value-from r.packages members place.place any.1 place.is there;
      has = at-has P r.packages place.place any.1 place.is any.4;
    }

-- the clause with a package that has the property of the numbers is true
some-true : (r : PackageList) (members : List Package) (P : Package → Type 0) (numbers : List ℕ) → AreNumbersOf r P numbers → MemberAt r members P
    → MakesTrue (value_of (values_for r.packages members)) (map installed numbers)
some-true r members P numbers are at = true-installed (values_for r.packages members) numbers at.number ((are.exact at.number).1 at.has) at.is

-- whether a package is installed is decided
pub installed-decided : (values : List Bool) (n : ℕ) → (slice_get values n ≡ Some true) ⊎ (¬ (slice_get values n ≡ Some true))
installed-decided [] n = inr (λ h. cc)
installed-decided (true ∷ values) zero = inl refl
installed-decided (false ∷ values) zero = inr (λ h. cc)
installed-decided (b ∷ values) (suc n) = installed-decided values n

item-true : (r : PackageList) (essential : Bool) (members : List Package) (n k : ℕ) (clause : List Literal) → IsInstallation essential r members
    → IsClauseFor r (Item n k) clause
    → MakesTrue (value_of (values_for r.packages members)) clause
item-true r essential members n k clause healthy is =
    let values = values_for r.packages members in
    let numbers : List ℕ = is.0 in
    let Numbers : Package → List Atom → Type 0 = λ p item. AreNumbersOf r (IsMetBy r.architecture item) numbers in
    let at = found-item r n k Numbers is.1 in
    let Literals : Type 0 = List Literal in
    let True : Literals → Type 0 = MakesTrue (value_of values) in
    let One : Literal → Type 0 = IsTrueLiteral (value_of values) in
    subst True (sym is.2) (elim (installed-decided values n) [
      | inr none ↦ any-head One (not_installed n) (map installed numbers) (absent-true values n none)
      | inl holds ↦
          let there : Contains members at.package_is = from-value r.packages members n at.package_is at.is_package holds in
          let all : All (IsMet r.architecture members) at.package_is.depends =
          All-contains (λ p. All (IsMet r.architecture members) p.depends) members at.package_is healthy.met there in
          let met : IsMet r.architecture members at.item = All-contains (IsMet r.architecture members) at.package_is.depends at.item all
          (contains-at at.package_is.depends k at.item at.is_item) in
          let atom = met.1 in
          let by : Any (Matches r.architecture atom) members = met.4 in
          let member = member-at r members healthy.chosen (Matches r.architecture atom) by in
          let Meets : Package → Type 0 = IsMetBy r.architecture at.item in
          let wider : IsPackageAnd r.packages member.number Meets =
          at-more (Matches r.architecture atom) Meets (λ q matches. any-contained (λ a. Matches r.architecture a q) at.item atom (met.0, met.2, met.3) matches)
          r.packages member.number member.has in
          any-later One (not_installed n) (map installed numbers)
          (some-true r members Meets numbers at.holds (record { number = member.number; is = member.is; has = wider }))
    ])

apart-true : (r : PackageList) (essential : Bool) (members : List Package) (n k : ℕ) (clause : List Literal) → IsInOrder r.packages
    → IsInstallation essential r members → IsDemand r essential (Apart n k) → IsClauseFor r (Apart n k) clause
    → MakesTrue (value_of (values_for r.packages members)) clause
apart-true r essential members n k clause ordered healthy demand is =
    let values = values_for r.packages members in
    let True : List Literal → Type 0 = MakesTrue (value_of values) in
    let One : Literal → Type 0 = IsTrueLiteral (value_of values) in
    let Either : Package → Package → Type 0 = λ p q. (p.name ≡ q.name) ⊎ AreInConflict r.architecture p q in
    let Second : Package → Type 0 = λ p. IsPackageAnd r.packages k (Either p) in
    let p = some-element Second r.packages n demand.1 in
    let is_p = element-is Second r.packages n demand.1 in
    let inner : Second p = has-at Second r.packages n p is_p demand.1 in
    let q = some-element (Either p) r.packages k inner in
    let is_q = element-is (Either p) r.packages k inner in
    let either : Either p q = has-at (Either p) r.packages k q is_q inner in
    subst True (sym is) (elim (installed-decided values n) [
      | inr none ↦ any-head One (not_installed n) (not_installed k ∷ []) (absent-true values n none)
      | inl first ↦ elim (installed-decided values k) [
        | inr none ↦ any-later One (not_installed n) (not_installed k ∷ []) (any-head One (not_installed k) [] (absent-true values k none))
        | inl second ↦ absurd (both-apart r essential members p q healthy
            (λ same. never-same r.packages n k p q ordered demand.0 is_p is_q (ap (λ (x : Package). x.name) same, same-version p q same))
            (from-value r.packages members n p is_p first) (from-value r.packages members k q is_q second) either)
      ]
    ])
  where
    same-version : (p q : Package) → p ≡ q → version_cmp p.version q.version ≡ Equal
    same-version p q same = ap (λ (x : Package). version_cmp p.version x.version) (sym same) ∙ sym (version_cmp-same p.version p.version refl)

    both-apart : (r : PackageList) (essential : Bool) (members : List Package) (p q : Package) → IsInstallation essential r members → p ≢ q → Contains members p
        → Contains members q
        → (p.name ≡ q.name) ⊎ AreInConflict r.architecture p q → ⊥
    both-apart r essential members p q healthy apart first second either = elim either [
      | inl same ↦ pair-from (λ x y. x.name ≢ y.name) names-back members p q healthy.one_of_a_name first second apart same
      | inr conflict ↦ pair-from (λ x y. ¬ AreInConflict r.architecture x y) (apart-back r.architecture) members p q healthy.no_conflict first second apart
          conflict
    ]

name-true : (r : PackageList) (essential : Bool) (members : List Package) (name : List ℕ) (clause : List Literal) → IsInstallation essential r members
    → IsDemand r essential (Required name) → IsClauseFor r (Required name) clause
    → MakesTrue (value_of (values_for r.packages members)) clause
name-true r essential members name clause healthy demand is =
    let True : List Literal → Type 0 = MakesTrue (value_of (values_for r.packages members)) in
    let Named : Package → Type 0 = λ p. p.name ≡ name in
    let any : Any Named members = All-contains (λ z. Any (λ (p : Package). p.name ≡ z) members) (required_names essential r.packages) name healthy.has_required
    demand in
    subst True (sym is.2) (some-true r members Named is.0 is.1 (member-at r members healthy.chosen Named any))

demand-true : (r : PackageList) (essential : Bool) (members : List Package) (d : Demand) (clause : List Literal) → IsInOrder r.packages
    → IsInstallation essential r members → IsDemand r essential d → IsClauseFor r d clause
    → MakesTrue (value_of (values_for r.packages members)) clause
demand-true r essential members (Item n k) clause ordered healthy demand is = item-true r essential members n k clause healthy is
demand-true r essential members (Apart n k) clause ordered healthy demand is = apart-true r essential members n k clause ordered healthy demand is
demand-true r essential members (Required name) clause ordered healthy demand is = name-true r essential members name clause healthy demand is

model-from : (r : PackageList) (essential : Bool) (clauses : List (List Literal)) (members : List Package) → IsInOrder r.packages
    → ArePresentClauses r essential clauses → IsInstallation essential r members
    → IsModel (value_of (values_for r.packages members)) clauses
model-from r essential clauses members ordered are healthy =
    let True : List Literal → Type 0 = MakesTrue (value_of (values_for r.packages members)) in
    let All' : List (List Literal) → Type 0 = λ xs. All True xs in
    subst All' (sym are.are) (All-map True (λ (a : Row). a.1) are.rows
    (all-contained (λ (a : Row). True a.1) are.rows (λ a there.
    demand-true r essential members a.0 a.1 ordered healthy ((are.exact a.0).0 (there.0, a, there.1, there.2, refl))
    (All-contains (λ (b : Row). IsClauseFor r b.0 b.1) are.rows a are.each there))))

pub same-members : (r : PackageList) (members : List Package) → All (Contains r.packages) members
    → AreSamePackages members (members_of r.packages (values_for r.packages members))
same-members r members chosen p = (
  (λ there.
      let place = place-of r.packages p (All-contains (Contains r.packages) members p chosen there) in
      let Same : Package → Type 0 = λ q. q ≡ p in
      let any = member-any Same r.packages (values_for r.packages members) place.place (value-from r.packages members place.place p place.is there)
      (at-has Same r.packages place.place p place.is refl) in
      subst (Contains (members_of r.packages (values_for r.packages members))) any.4
      (any-there Same (members_of r.packages (values_for r.packages members)) any)),
  λ there.
      All-contains (Contains members) (members_of r.packages (values_for r.packages members)) p
      (all-members (Contains members) r.packages (values_for r.packages members) (λ k q m. from-value r.packages members k q m.there m.member)) there,
)

pub values-length : (packages members : List Package) → length (values_for packages members) ≡ length packages
unfolding values_for
values-length packages members = length-map packages (has members)

pub models-installations : (r : PackageList) (essential : Bool) (clauses : List (List Literal)) → IsInOrder r.packages → ArePresentClauses r essential clauses
    → AreModelsInstallations r essential clauses
models-installations r essential clauses ordered are = record {
  healthy = λ values model. model-healthy r essential clauses are values model;
  all = λ members healthy. (
    values_for r.packages members,
    record { one_each = values-length r.packages members; model = model-from r essential clauses members ordered are healthy },
    same-members r members healthy.chosen,
  );
}
