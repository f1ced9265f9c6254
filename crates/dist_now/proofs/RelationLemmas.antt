-- What a set of packages fails, by its health and by the clauses of demands.
use Rattle.std.proofs.Common.{◌≡◌, ◌≢◌, ◌⊎◌, ℕ, zero, suc, ◌<◌, Bool, true, false, List, [], ◌∷◌, length, get_or, map, map-id}
use Rattle.std.proofs.Common.{Some, Equal, refl, sym, ap, subst, ◌∙◌, arith, inl, inr, slice_get}
use Rattle.std.specs.Prelude.{All, AllPairs, Any, Contains, IsSomeAnd}
use Rattle.std.proofs.lemmas.Bool.{cases_lt, false≢true}
use Rattle.std.proofs.lemmas.List.{get_or_default, length-map}
use Rattle.std.proofs.lemmas.List.Elements.{All-contains, All-nil, All-tail}
use Rattle.dist_base.specs.ListLaws.{all-contained, any-cases, any-contained, any-head, any-later, any-more, any-there, at-has, at-more}
use Rattle.dist_base.specs.ListLaws.{contains-at, element-is, has-at, pair-from, place-of, same-at, some-element}
use Rattle.dist_base.specs.RowLaws.{rows-same}
use Rattle.dist_clause.specs.Formula.{Literal, IsTrueLiteral, MakesTrue, value_of}
use Rattle.dist_relation.specs.declared.atom.Atom.{Atom}
use Rattle.dist_repo.specs.Conflict.{AreInConflict}
use Rattle.dist_repo.specs.DecidedLaws.{IsDecided, any-decided, at-decided, both-decided, met-decided, not-decided, same-as, text-decided}
use Rattle.dist_repo.specs.EqualityPrivate.{package_eq, packages_decide}
use Rattle.dist_repo.specs.Healthy.{IsMet}
use Rattle.dist_repo.specs.Match.{Matches}
use Rattle.dist_repo.specs.Order.{IsInOrder}
use Rattle.dist_repo.specs.PackageList.{PackageList, IsPackageAnd}
use Rattle.dist_repo.specs.Strong.{IsInstallation}
use Rattle.dist_repo.specs.declared.package.Package.{Package}
use Rattle.dist_version.specs.Order.{version_cmp}
use Rattle.dist_version.specs.OrderLaws.{version_cmp-same}
use Rattle.dist_now.specs.Relations.{AreMembersByValues, AreOf, AreRelations, AreValuesOf, Fails, HaveClauses, IsHealthyByDemands, IsTrueByDemand}
use Rattle.dist_now.specs.Members.{members_of}
use Rattle.dist_now.specs.PresentClauses.{Demand, Item, Apart, Required, AreNumbersOf, ArePresentClauses, IsBefore, IsClauseFor}
use Rattle.dist_now.specs.PresentClauses.{IsDemand, IsMetBy, installed, not_installed}
use Rattle.dist_now.specs.PresentLaws.{AreSamePackages, HasNoRepeats}
use Rattle.dist_now.proofs.ConflictLemmas.{never-same}
use Rattle.dist_now.proofs.DemandLists.{FoundItem, Row, demands-asymmetric, found-item, one-item}
use Rattle.dist_now.proofs.HealthyLemmas.{all-members}
use Rattle.dist_now.proofs.MemberLemmas.{any-member, member-any}
use Rattle.dist_now.proofs.ModelLemmas.{absent-not, absent-true, installed-decided, installed-from, installed-true, met-by-installed}
use Rattle.dist_now.proofs.ModelLemmas.{same-members, some-installed, true-installed, values-length, values_for}
use Rattle.dist_now.proofs.SomeClauses.{some-clauses}
use Rattle.dist_now.proofs.SetLemmas.{apart-back, conflict-back, met-more, names-back}

-- ---- packages and their numbers

same-version : (p q : Package) → p ≡ q → version_cmp p.version q.version ≡ Equal
same-version p q same = ap (λ (x : Package). version_cmp p.version x.version) (sym same) ∙ sym (version_cmp-same p.version p.version refl)

-- packages at two numbers are different ones
apart-at : (packages : List Package) (a b : ℕ) (p q : Package) → IsInOrder packages → a < b → slice_get packages a ≡ Some p → slice_get packages b ≡ Some q
    → p ≢ q
apart-at packages a b p q ordered before is_p is_q same =
    never-same packages a b p q ordered before is_p is_q (ap (λ (x : Package). x.name) same, same-version p q same)

-- a package has one number
one-number : (packages : List Package) (a b : ℕ) (p : Package) → IsInOrder packages → slice_get packages a ≡ Some p → slice_get packages b ≡ Some p → a ≡ b
one-number packages a b p ordered first second = elim (cases_lt a b) [
  | inl less ↦ absurd (apart-at packages a b p p ordered less first second refl)
  | inr more ↦ elim (cases_lt b a) [
    | inl less ↦ absurd (apart-at packages b a p p ordered less second first refl)
    | inr most ↦ omega arith
  ]
]

-- a member is one by its number
member-from : (r : PackageList) (values : List Bool) (n : ℕ) (p : Package) → IsInOrder r.packages → slice_get r.packages n ≡ Some p
    → Contains (members_of r.packages values) p → slice_get values n ≡ Some true
member-from r values n p ordered is there =
    let Same : Package → Type 0 = λ q. q ≡ p in
    let m = any-member Same r.packages values (any-contained Same (members_of r.packages values) p there refl) in
    let q = some-element Same r.packages m.number m.has in
    let is_q = element-is Same r.packages m.number m.has in
    let same : q ≡ p = has-at Same r.packages m.number q is_q m.has in
    let number = one-number r.packages m.number n p ordered (is_q ∙ ap (λ (x : Package). Some x) same) is in
    subst (λ (k : ℕ). slice_get values k ≡ Some true) number m.member

from-member : (r : PackageList) (values : List Bool) (n : ℕ) (p : Package) → slice_get r.packages n ≡ Some p → slice_get values n ≡ Some true
    → Contains (members_of r.packages values) p
from-member r values n p is member =
    let Same : Package → Type 0 = λ q. q ≡ p in
    let any = member-any Same r.packages values n member (at-has Same r.packages n p is refl) in
    subst (Contains (members_of r.packages values)) any.4 (any-there Same (members_of r.packages values) any)

-- ---- items

-- an item that some package of the numbers' property meets
installed-by-met : (r : PackageList) (values : List Bool) (numbers : List ℕ) (item : List Atom) → AreNumbersOf r (IsMetBy r.architecture item) numbers
    → IsMet r.architecture (members_of r.packages values) item → MakesTrue (value_of values) (map installed numbers)
installed-by-met r values numbers item are met =
    let atom = met.1 in
    let By : Package → Type 0 = IsMetBy r.architecture item in
    let Matched : Package → Type 0 = Matches r.architecture atom in
    let m = any-member Matched r.packages values met.4 in
    let q = some-element Matched r.packages m.number m.has in
    let is_q = element-is Matched r.packages m.number m.has in
    let matches : Matched q = has-at Matched r.packages m.number q is_q m.has in
    let by : By q = any-contained (λ a. Matches r.architecture a q) item atom (met.0, met.2, met.3) matches in
    true-installed values numbers m.number ((are.exact m.number).1 (at-has By r.packages m.number q is_q by)) m.member

-- the package of an item, told in two ways, is one
one-holder : (r : PackageList) (n k : ℕ) (P Q : Package → List Atom → Type 0) (a : FoundItem r n k P) (b : FoundItem r n k Q) → a.package_is ≡ b.package_is
one-holder r n k P Q a b = let first = a.is_package in let second = b.is_package in cc

item-true : (r : PackageList) (n k : ℕ) (clause : List Literal) (values : List Bool) → IsInOrder r.packages → IsClauseFor r (Item n k) clause
    → IsTrueByDemand r (Item n k) clause values
item-true r n k clause values ordered (numbers, here, is) = (to, from)
  where
    Numbers : Package → List Atom → Type 0
    Numbers p item = AreNumbersOf r (IsMetBy r.architecture item) numbers

    Missed : Package → List Atom → Type 0
    Missed p item = Contains (members_of r.packages values) p × (¬ IsMet r.architecture (members_of r.packages values) item)

    at : FoundItem r n k Numbers
    at = found-item r n k Numbers here

    to : MakesTrue (value_of values) clause → ¬ Fails r (members_of r.packages values) (Item n k)
    to holds fails =
        let lost = found-item r n k Missed fails in
        let Of : List Atom → Type 0 = λ item. AreNumbersOf r (IsMetBy r.architecture item) numbers in
        let of = subst Of (one-item r n k Numbers Missed at lost) at.holds in
        elim (any-cases (IsTrueLiteral (value_of values)) (not_installed n) (map installed numbers) (subst (MakesTrue (value_of values)) is holds)) [
          | inl absent ↦ absent-not values n absent (member-from r values n lost.package_is ordered lost.is_package lost.holds.0)
          | inr some ↦ lost.holds.1 (met-by-installed r values numbers lost.item of (some-installed values numbers some))
        ]

    from : (¬ Fails r (members_of r.packages values) (Item n k)) → MakesTrue (value_of values) clause
    from none = subst (MakesTrue (value_of values)) (sym is) (elim (installed-decided values n) [
      | inr absent ↦ any-head (IsTrueLiteral (value_of values)) (not_installed n) (map installed numbers) (absent-true values n absent)
      | inl member ↦ any-later (IsTrueLiteral (value_of values)) (not_installed n) (map installed numbers)
          (elim (met-decided r.architecture (members_of r.packages values) at.item) [
            | inl met ↦ installed-by-met r values numbers at.item at.holds met
            | inr unmet ↦
                let Holder : Package → Type 0 = λ p. IsSomeAnd (slice_get p.depends k) (Missed p) in
                absurd (none (at-has Holder r.packages n at.package_is at.is_package (at-has (Missed at.package_is) at.package_is.depends k at.item at.is_item
                (from-member r values n at.package_is at.is_package member, unmet))))
          ])
    ])

-- ---- pairs

-- the two packages of a pair
record FoundPair (r : PackageList) (n k : ℕ) (P : Package → Package → Type 0) : Type 0 where
  first : Package
  is_first : slice_get r.packages n ≡ Some first
  second : Package
  is_second : slice_get r.packages k ≡ Some second
  holds : P first second

found-pair : (r : PackageList) (n k : ℕ) (P : Package → Package → Type 0) → IsPackageAnd r.packages n (λ p. IsPackageAnd r.packages k (P p)) → FoundPair r n k P
found-pair r n k P here =
    let Q : Package → Type 0 = λ p. IsPackageAnd r.packages k (P p) in
    let p = some-element Q r.packages n here in
    let is_p = element-is Q r.packages n here in
    let inner : Q p = has-at Q r.packages n p is_p here in
    let q = some-element (P p) r.packages k inner in
    let is_q = element-is (P p) r.packages k inner in
    record { first = p; is_first = is_p; second = q; is_second = is_q; holds = has-at (P p) r.packages k q is_q inner }

from-pair : (r : PackageList) (n k : ℕ) (P : Package → Package → Type 0) (p q : Package) → slice_get r.packages n ≡ Some p → slice_get r.packages k ≡ Some q
    → P p q → IsPackageAnd r.packages n (λ x. IsPackageAnd r.packages k (P x))
from-pair r n k P p q is_p is_q holds = at-has (λ (x : Package). IsPackageAnd r.packages k (P x)) r.packages n p is_p (at-has (P p) r.packages k q is_q holds)

-- two packages that are apart, by their numbers
abbrev Either : PackageList → Package → Package → Type 0
Either r p q = (p.name ≡ q.name) ⊎ AreInConflict r.architecture p q

apart-true : (r : PackageList) (essential : Bool) (n k : ℕ) (clause : List Literal) (values : List Bool) → IsInOrder r.packages
    → IsDemand r essential (Apart n k) → IsClauseFor r (Apart n k) clause → IsTrueByDemand r (Apart n k) clause values
apart-true r essential n k clause values ordered demand is = (to, from)
  where
    Both : Package → Package → Type 0
    Both p q = Contains (members_of r.packages values) p × Contains (members_of r.packages values) q

    to : MakesTrue (value_of values) clause → ¬ Fails r (members_of r.packages values) (Apart n k)
    to holds fails =
        let at = found-pair r n k Both fails in
        elim (any-cases (IsTrueLiteral (value_of values)) (not_installed n) (not_installed k ∷ []) (subst (MakesTrue (value_of values)) is holds)) [
          | inl here ↦ absent-not values n here (member-from r values n at.first ordered at.is_first at.holds.0)
          | inr later ↦ elim (any-cases (IsTrueLiteral (value_of values)) (not_installed k) [] later) [
            | inl here ↦ absent-not values k here (member-from r values k at.second ordered at.is_second at.holds.1)
            | inr none ↦ omega (arith, none.2)
          ]
        ]

    from : (¬ Fails r (members_of r.packages values) (Apart n k)) → MakesTrue (value_of values) clause
    from none = subst (MakesTrue (value_of values)) (sym is) (elim (installed-decided values n) [
      | inr absent ↦ any-head (IsTrueLiteral (value_of values)) (not_installed n) (not_installed k ∷ []) (absent-true values n absent)
      | inl first ↦ any-later (IsTrueLiteral (value_of values)) (not_installed n) (not_installed k ∷ []) (elim (installed-decided values k) [
        | inr absent ↦ any-head (IsTrueLiteral (value_of values)) (not_installed k) [] (absent-true values k absent)
        | inl second ↦
            let at = found-pair r n k (λ p q. (p.name ≡ q.name) ⊎ AreInConflict r.architecture p q) demand.1 in
            absurd (none (from-pair r n k Both at.first at.second at.is_first at.is_second
            (from-member r values n at.first at.is_first first, from-member r values k at.second at.is_second second)))
      ])
    ])

-- ---- names

name-true : (r : PackageList) (name : List ℕ) (clause : List Literal) (values : List Bool) → IsClauseFor r (Required name) clause
    → IsTrueByDemand r (Required name) clause values
name-true r name clause values (numbers, are, is) = (to, from)
  where
    Named : Package → Type 0
    Named p = p.name ≡ name

    to : MakesTrue (value_of values) clause → ¬ Fails r (members_of r.packages values) (Required name)
    to holds fails =
        let some = some-installed values numbers (subst (MakesTrue (value_of values)) is holds) in
        fails (member-any Named r.packages values some.number some.is ((are.exact some.number).0 some.there))

    from : (¬ Fails r (members_of r.packages values) (Required name)) → MakesTrue (value_of values) clause
    from none = subst (MakesTrue (value_of values)) (sym is)
        (elim (any-decided Named (λ p. text-decided p.name name) (members_of r.packages values)) [
          | inr never ↦ absurd (none never)
          | inl any ↦ let m = any-member Named r.packages values any in
              true-installed values numbers m.number ((are.exact m.number).1 m.has) m.member
        ])

pub true-by-demand : (r : PackageList) (essential : Bool) (d : Demand) (clause : List Literal) (values : List Bool) → IsInOrder r.packages
    → IsDemand r essential d → IsClauseFor r d clause → IsTrueByDemand r d clause values
true-by-demand r essential (Item n k) clause values ordered demand is = item-true r n k clause values ordered is
true-by-demand r essential (Apart n k) clause values ordered demand is = apart-true r essential n k clause values ordered demand is
true-by-demand r essential (Required name) clause values ordered demand is = name-true r name clause values is

-- ---- sets

-- whether a list has a package is decided
there-decided : (members : List Package) (p : Package) → IsDecided (Contains members p)
there-decided members p = same-as (λ any. subst (Contains members) any.4 (any-there (λ q. q ≡ p) members any))
    (λ there. any-contained (λ q. q ≡ p) members p there refl)
    (any-decided (λ q. q ≡ p) (λ q. package-decided q p) members)
  where
    package-decided : (q p : Package) → IsDecided (q ≡ p)
    package-decided q p = by (package_eq q p) refl
      where
        by : (b : Bool) → package_eq q p ≡ b → IsDecided (q ≡ p)
        by true is = inl ((packages_decide q p).0 is)
        by false is = inr (λ same. false≢true (sym is ∙ (packages_decide q p).1 same))

pub fails-decided : (r : PackageList) (members : List Package) (d : Demand) → IsDecided (Fails r members d)
fails-decided r members (Item n k) =
    let Missed : Package → List Atom → Type 0 = λ p item. Contains members p × (¬ IsMet r.architecture members item) in
    at-decided (λ p. IsSomeAnd (slice_get p.depends k) (Missed p))
    (λ p. at-decided (Missed p) (λ item. both-decided (there-decided members p) (not-decided (met-decided r.architecture members item))) p.depends k)
    r.packages n
fails-decided r members (Apart n k) =
    at-decided (λ p. IsPackageAnd r.packages k (λ q. Contains members p × Contains members q))
    (λ p. at-decided (λ q. Contains members p × Contains members q) (λ q. both-decided (there-decided members p) (there-decided members q)) r.packages k)
    r.packages n
fails-decided r members (Required name) = not-decided (any-decided (λ p. p.name ≡ name) (λ p. text-decided p.name name) members)

pub members-by-values : (r : PackageList) (values : List Bool) → IsInOrder r.packages → AreMembersByValues r values
members-by-values r values ordered = record {
  of = all-members (Contains r.packages) r.packages values (λ k p m. contains-at r.packages k p m.there);
  exact = λ number p is. (
    (λ there. installed-true values number (member-from r values number p ordered is there)),
    λ holds. from-member r values number p is (installed-from values number holds),
  );
}

pub values-of : (r : PackageList) (members : List Package) → AreOf r members → (values : List Bool) × AreValuesOf r members values
values-of r members of = (
  values_for r.packages members,
  record { one_each = values-length r.packages members; same = same-members r members of },
)

pub fails-same : (r : PackageList) (members others : List Package) (d : Demand) → AreSamePackages members others → Fails r members d → Fails r others d
fails-same r members others (Item n k) same fails =
    let Missed : List Package → Package → List Atom → Type 0 = λ xs p item. Contains xs p × (¬ IsMet r.architecture xs item) in
    let Holder : List Package → Package → Type 0 = λ xs p. IsSomeAnd (slice_get p.depends k) (Missed xs p) in
    at-more (Holder members) (Holder others)
    (λ p. at-more (Missed members p) (Missed others p)
    (λ item both. ((same p).0 both.0, λ met. both.1 (met-more r.architecture others members (λ q. (same q).1) item met))) p.depends k)
    r.packages n fails
fails-same r members others (Apart n k) same fails =
    let Both : List Package → Package → Package → Type 0 = λ xs p q. Contains xs p × Contains xs q in
    at-more (λ p. IsPackageAnd r.packages k (Both members p)) (λ p. IsPackageAnd r.packages k (Both others p))
    (λ p. at-more (Both members p) (Both others p) (λ q both. ((same p).0 both.0, (same q).0 both.1)) r.packages k)
    r.packages n fails
fails-same r members others (Required name) same fails = λ any.
    fails (any-contained (λ p. p.name ≡ name) members any.1 ((same any.1).1 (any-there (λ p. p.name ≡ name) others any)) any.4)

-- ---- health

healthy-fails-none : (r : PackageList) (members : List Package) → IsInOrder r.packages → IsInstallation false r members
    → (d : Demand) → IsDemand r false d → ¬ Fails r members d
healthy-fails-none r members ordered healthy (Item n k) demand fails =
    let Missed : Package → List Atom → Type 0 = λ p item. Contains members p × (¬ IsMet r.architecture members item) in
    let at = found-item r n k Missed fails in
    let all : All (IsMet r.architecture members) at.package_is.depends =
    All-contains (λ p. All (IsMet r.architecture members) p.depends) members at.package_is healthy.met at.holds.0 in
    at.holds.1 (All-contains (IsMet r.architecture members) at.package_is.depends at.item all (contains-at at.package_is.depends k at.item at.is_item))
healthy-fails-none r members ordered healthy (Apart n k) demand fails =
    let Both : Package → Package → Type 0 = λ p q. Contains members p × Contains members q in
    let at = found-pair r n k Both fails in
    let also = found-pair r n k (λ p q. (p.name ≡ q.name) ⊎ AreInConflict r.architecture p q) demand.1 in
    let first : also.first ≡ at.first = same-at r.packages n also.first at.first also.is_first at.is_first in
    let second : also.second ≡ at.second = same-at r.packages k also.second at.second also.is_second at.is_second in
    let either : Either r at.first at.second = subst (Either r at.first) second (subst (λ (p : Package). Either r p also.second) first also.holds) in
    let apart = apart-at r.packages n k at.first at.second ordered demand.0 at.is_first at.is_second in
    elim either [
      | inl same ↦ pair-from (λ x y. x.name ≢ y.name) names-back members at.first at.second healthy.one_of_a_name at.holds.0 at.holds.1 apart same
      | inr conflict ↦ pair-from (λ x y. ¬ AreInConflict r.architecture x y) (apart-back r.architecture) members at.first at.second healthy.no_conflict
          at.holds.0 at.holds.1 apart conflict
    ]
healthy-fails-none r members ordered healthy (Required name) demand fails = absurd (omega (arith, demand.1))

no-repeats : (members : List Package) → AllPairs (λ (p q : Package). p.name ≢ q.name) members → HasNoRepeats members
no-repeats members names i j d before short = λ same. names i j d before short (ap (λ (x : Package). x.name) same)

-- two members that are not the same have numbers, one below the other, and fail a demand where they must be apart
members-fail : (r : PackageList) (members : List Package) (p q : Package) → AreOf r members → ((d : Demand) → IsDemand r false d → ¬ Fails r members d)
    → Contains members p → Contains members q → p ≢ q → ¬ Either r p q
members-fail r members p q of none first second apart either =
    let a = place-of r.packages p (All-contains (Contains r.packages) members p of first) in
    let b = place-of r.packages q (All-contains (Contains r.packages) members q of second) in
    elim (cases_lt a.place b.place) [
      | inl less ↦ fail a.place b.place p q less a.is b.is first second either
      | inr more ↦ elim (cases_lt b.place a.place) [
        | inl less ↦ fail b.place a.place q p less b.is a.is second first (back either)
        | inr most ↦
            let same : a.place ≡ b.place = omega arith in
            apart (same-at r.packages b.place p q (subst (λ (k : ℕ). slice_get r.packages k ≡ Some p) same a.is) b.is)
      ]
    ]
  where
    back : Either r p q → Either r q p
    back (inl same) = inl (sym same)
    back (inr conflict) = inr (conflict-back r.architecture p q conflict)

    fail : (n k : ℕ) (x y : Package) → n < k → slice_get r.packages n ≡ Some x → slice_get r.packages k ≡ Some y → Contains members x → Contains members y
        → Either r x y → ⊥
    fail n k x y less is_x is_y in_x in_y holds =
        none (Apart n k) (less, from-pair r n k (λ p q. (p.name ≡ q.name) ⊎ AreInConflict r.architecture p q) x y is_x is_y holds)
        (from-pair r n k (λ p q. Contains members p × Contains members q) x y is_x is_y (in_x, in_y))

-- packages that fail no demand meet each item of each
members-met : (r : PackageList) (members : List Package) (p : Package) (k : ℕ) (item : List Atom) → AreOf r members
    → ((d : Demand) → IsDemand r false d → ¬ Fails r members d) → Contains members p → slice_get p.depends k ≡ Some item → IsMet r.architecture members item
members-met r members p k item of none there is = elim (met-decided r.architecture members item) [
  | inl met ↦ met
  | inr unmet ↦
      let a = place-of r.packages p (All-contains (Contains r.packages) members p of there) in
      let Own : Package → List Atom → Type 0 = λ q i. ¬ IsMetBy r.architecture i q in
      let Missed : Package → List Atom → Type 0 = λ q i. Contains members q × (¬ IsMet r.architecture members i) in
      let own : Own p item = λ by. unmet (any-more (λ atom. Matches r.architecture atom p) (λ atom. Any (Matches r.architecture atom) members)
      (λ atom matches. any-contained (Matches r.architecture atom) members p there matches) item by) in
      absurd (none (Item a.place k)
      (at-has (λ (q : Package). IsSomeAnd (slice_get q.depends k) (Own q)) r.packages a.place p a.is (at-has (Own p) p.depends k item is own))
      (at-has (λ (q : Package). IsSomeAnd (slice_get q.depends k) (Missed q)) r.packages a.place p a.is (at-has (Missed p) p.depends k item is (there, unmet))))
]

none-fails-healthy : (r : PackageList) (members : List Package) → AreOf r members → HasNoRepeats members
    → ((d : Demand) → IsDemand r false d → ¬ Fails r members d) → IsInstallation false r members
none-fails-healthy r members of once none = record {
  chosen = of;
  one_of_a_name = λ i j d before short. λ same. apart i j d before short (inl same);
  met = all-contained (λ p. All (IsMet r.architecture members) p.depends) members (λ p there.
      all-contained (IsMet r.architecture members) p.depends (λ item inside.
      let at = place-of p.depends item inside in members-met r members p at.place item of none there at.is));
  no_conflict = λ i j d before short. λ conflict. apart i j d before short (inr conflict);
  has_required = All-nil (λ name. Any (λ (p : Package). p.name ≡ name) members);
}
  where
    inside : (i : ℕ) (d : Package) → i < length members → Contains members (get_or members i d)
    inside i d short = (i, short, get_or_default members i (get_or members i d) d short)

    apart : (i j : ℕ) (d : Package) → i < j → j < length members → ¬ Either r (get_or members i d) (get_or members j d)
    apart i j d before short = members-fail r members (get_or members i d) (get_or members j d) of none (inside i d (omega arith)) (inside j d short)
        (once i j d before short)

pub healthy-by-demands : (r : PackageList) (members : List Package) → IsInOrder r.packages → IsHealthyByDemands r members
healthy-by-demands r members ordered = (
  (λ healthy. (healthy.chosen, no-repeats members healthy.one_of_a_name, healthy-fails-none r members ordered healthy)),
  λ all. none-fails-healthy r members all.0 all.1 all.2,
)

-- ---- relations and their clauses

-- the demands of rows
demands_of : List Row → List Demand
demands_of rows = map (λ (a : Row). a.0) rows

demand-at : (rows : List Row) (k : ℕ) (d : Demand) → get_or (demands_of rows) k d ≡ (get_or rows k (d, [])).0
unfolding demands_of
demand-at [] k d = refl
demand-at (a ∷ rows) zero d = refl
demand-at (a ∷ rows) (suc k) d = demand-at rows k d

demand-count : (rows : List Row) → length (demands_of rows) ≡ length rows
unfolding demands_of
demand-count rows = length-map rows (λ (a : Row). a.0)

rows-rising : (rows : List Row) → AllPairs (λ (a b : Row). IsBefore a.0 b.0) rows → AllPairs IsBefore (demands_of rows)
rows-rising rows rising i j d before short =
    let count = demand-count rows in
    subst (λ (x : Demand). IsBefore x (get_or (demands_of rows) j d)) (sym (demand-at rows i d))
    (subst (λ (x : Demand). IsBefore (get_or rows i (d, [])).0 x) (sym (demand-at rows j d)) (rising i j (d, []) before (omega arith)))

any-demand : (rows : List Row) (d : Demand) → Any (λ (a : Row). a.0 ≡ d) rows → Contains (demands_of rows) d
unfolding demands_of
any-demand [] d any = absurd (omega (arith, any.2))
any-demand (a ∷ rows) d any = elim (any-cases (λ (b : Row). b.0 ≡ d) a rows any) [
  | inl here ↦ (0, omega arith, here)
  | inr later ↦ let there = any-demand rows d later in (suc there.0, omega (arith, there.1), there.2)
]

demand-cases : (a : Row) (rows : List Row) (d : Demand) → Contains (demands_of (a ∷ rows)) d → (a.0 ≡ d) ⊎ Contains (demands_of rows) d
unfolding demands_of
demand-cases a rows d there = at there.0 there.1 there.2
  where
    at : (k : ℕ) → k < length (demands_of (a ∷ rows)) → get_or (demands_of (a ∷ rows)) k d ≡ d → (a.0 ≡ d) ⊎ Contains (demands_of rows) d
    at zero short is = inl is
    at (suc k) short is = inr (k, omega (arith, short), is)

demand-any : (rows : List Row) (d : Demand) → Contains (demands_of rows) d → Any (λ (a : Row). a.0 ≡ d) rows
unfolding demands_of
demand-any [] d there = absurd (omega (arith, there.1))
demand-any (a ∷ rows) d there = elim (demand-cases a rows d there) [
  | inl is ↦ any-head (λ (b : Row). b.0 ≡ d) a rows is
  | inr later ↦ any-later (λ (b : Row). b.0 ≡ d) a rows (demand-any rows d later)
]

relations-of : (r : PackageList) (clauses : List (List Literal)) → (are : ArePresentClauses r false clauses) → AreRelations r (demands_of are.rows)
relations-of r clauses are = record {
  in_order = rows-rising are.rows are.rising;
  exact = λ d. (
    (λ there. (are.exact d).0 (demand-any are.rows d there)),
    λ demand. any-demand are.rows d ((are.exact d).1 demand),
  );
}

pub some-relations : (r : PackageList) → IsInOrder r.packages → (relations : List Demand) × AreRelations r relations
some-relations r ordered = let some = some-clauses r false ordered in (demands_of some.1.rows, relations-of r some.0 some.1)

has-itself : (relations : List Demand) (d : Demand) → Contains relations d → Any (λ e. e ≡ d) relations
has-itself relations d there = any-contained (λ e. e ≡ d) relations d there refl

itself-has : (relations : List Demand) (d : Demand) → Any (λ e. e ≡ d) relations → Contains relations d
itself-has relations d any = subst (Contains relations) any.4 (any-there (λ e. e ≡ d) relations any)

pub one-relations : (r : PackageList) (relations others : List Demand) → AreRelations r relations → AreRelations r others → others ≡ relations
one-relations r relations others are also =
    sym (map-id others) ∙ rows-same (λ (d : Demand). d) IsBefore (λ (d : Demand). Unit {0}) (λ (d : Demand). d) demands-asymmetric
    (λ x y same p q. same) relations others are.in_order also.in_order (λ k d short. tt) (λ k d short. tt)
    (λ d has. has-itself others d ((also.exact d).1 ((are.exact d).0 (itself-has relations d has))))
    (λ d has. has-itself relations d ((are.exact d).1 ((also.exact d).0 (itself-has others d has))))
    ∙ map-id relations

row-clause : (r : PackageList) (rows : List Row) → All (λ (a : Row). IsClauseFor r a.0 a.1) rows → (place : ℕ) (clause : List Literal)
    → slice_get (map (λ (a : Row). a.1) rows) place ≡ Some clause → IsSomeAnd (slice_get (demands_of rows) place) (λ d. IsClauseFor r d clause)
unfolding demands_of
row-clause r [] all place clause is = cc
row-clause r (a ∷ rows) all zero clause is = let same : a.1 ≡ clause = cc in subst (IsClauseFor r a.0) same (all 0 a (omega arith))
row-clause r (a ∷ rows) all (suc place) clause is = row-clause r rows (All-tail (λ (b : Row). IsClauseFor r b.0 b.1) a rows all) place clause is

pub have-clauses : (r : PackageList) (relations : List Demand) (clauses : List (List Literal)) → AreRelations r relations → ArePresentClauses r false clauses
    → HaveClauses r relations clauses
have-clauses r relations clauses are of =
    let same : demands_of of.rows ≡ relations = one-relations r relations (demands_of of.rows) are (relations-of r clauses of) in
    subst (λ (ds : List Demand). HaveClauses r ds clauses) same (record {
      one_each = ap length of.are ∙ length-map of.rows (λ (a : Row). a.1) ∙ sym (demand-count of.rows);
      each = λ place clause is. row-clause r of.rows of.each place clause (ap (λ (xs : List (List Literal)). slice_get xs place) (sym of.are) ∙ is);
    })
