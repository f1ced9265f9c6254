-- Fronts of the clauses of mode essential, up to a name.
use Rattle.std.proofs.Common.{◌≡◌, ◌≢◌, ◌⊎◌, ℕ, ◌+◌, ◌<◌, ◌≤◌, true, false, List, [], ◌∷◌, ◌++◌, length, get_or, nat_cmp, Ordering, Less, Equal, Greater, refl}
use Rattle.std.proofs.Common.{sym, ap, subst, ◌∙◌, arith, inl, inr, None, Option, Some, slice_get}
use Rattle.std.specs.Cmp.Lexicographic.{slice_cmp}
use Rattle.std.specs.Ordering.{ordering_reverse}
use Rattle.std.proofs.lemmas.Bool.{cases_lt, false≢true}
use Rattle.std.proofs.lemmas.Cmp.{nat_list_cmp_total}
use Rattle.std.proofs.lemmas.Option.{get_or_from_slice_get, slice_get_within}
use Rattle.dist_base.specs.ListLaws.{at-has, at-more, element-is, has-at, some-element, within-from}
use Rattle.dist_clause.specs.ClauseList.{ClauseList}
use Rattle.dist_clause.specs.DemandLaws.{set-more, set-shift}
use Rattle.dist_clause.specs.Formula.{Literal}
use Rattle.dist_version.specs.Order.{version_cmp}
use Rattle.dist_repo.specs.Order.{IsInOrder, package_cmp}
use Rattle.dist_repo.specs.PackageList.{PackageList, IsPackageAnd}
use Rattle.dist_repo.specs.declared.package.Package.{Package}
use Rattle.dist_now.specs.GatheringPrivate.{HasNoEssential, IsEssentialBefore, IsEssentialSet, IsLastEssential, IsNamedBelow, IsNamedFront, IsNamedSoFar}
use Rattle.dist_now.specs.GatheringPrivate.{IsPlainSet}
use Rattle.dist_now.specs.PresentClauses.{Demand, Item, Apart, Required, IsBefore, IsClauseFor, IsDemand, present_demands}
use Rattle.dist_now.specs.PresentSet.{IsSetOf}
use Rattle.dist_now.proofs.ModelLemmas.{IsEssentialOf, required-at, required-from}
use Rattle.dist_now.proofs.NameLemmas.{between-named, same_names, then-less}

-- ---- the order of names

pub names-in-order : (packages : List Package) (i j : ℕ) (p q : Package) → IsInOrder packages → i < j → slice_get packages i ≡ Some p
    → slice_get packages j ≡ Some q → slice_cmp nat_cmp p.name q.name ≢ Greater
names-in-order packages i j p q ordered before is_p is_q =
    let first : get_or packages i p ≡ p = get_or_from_slice_get packages i p p is_p in
    let second : get_or packages j p ≡ q = get_or_from_slice_get packages j q p is_q in
    let less : package_cmp (get_or packages i p) (get_or packages j p) ≡ Less = ordered i j p before (slice_get_within packages j q is_q) in
    let less' : package_cmp p q ≡ Less = sym (ap (λ (x : Package). package_cmp x (get_or packages j p)) first ∙ ap (λ (x : Package). package_cmp p x) second)
    ∙ less in
    then-less (slice_cmp nat_cmp p.name q.name) (version_cmp p.version q.version) less'

less-or-same : (a b : List ℕ) → slice_cmp nat_cmp a b ≢ Greater → (slice_cmp nat_cmp a b ≡ Less) ⊎ (a ≡ b)
less-or-same a b up = by (slice_cmp nat_cmp a b) refl
  where
    by : (o : Ordering) → slice_cmp nat_cmp a b ≡ o → (slice_cmp nat_cmp a b ≡ Less) ⊎ (a ≡ b)
    by Less is = inl is
    by Equal is = inr (same_names a b is)
    by Greater is = absurd (up is)

never-less : (a : List ℕ) → ¬ (slice_cmp nat_cmp a a ≡ Less)
never-less a less = let turned = nat_list_cmp_total.antisymm a a in cc

turned-greater : (a b : List ℕ) → slice_cmp nat_cmp a b ≡ Less → slice_cmp nat_cmp b a ≡ Greater
turned-greater a b less = nat_list_cmp_total.antisymm b a ∙ ap ordering_reverse less

-- ---- essential packages before one

-- what one package of a number has and is
record Essential (r : PackageList) (k : ℕ) (name : List ℕ) : Type 0 where
  it : Package
  is : slice_get r.packages k ≡ Some it
  essential : it.essential ≡ true
  named : it.name ≡ name

essential-at : (r : PackageList) (k : ℕ) (name : List ℕ) → IsPackageAnd r.packages k (IsEssentialOf name) → Essential r k name
essential-at r k name here =
    let q = some-element (IsEssentialOf name) r.packages k here in
    let is_q = element-is (IsEssentialOf name) r.packages k here in
    let holds : IsEssentialOf name q = has-at (IsEssentialOf name) r.packages k q is_q here in
    record { it = q; is = is_q; essential = holds.0; named = holds.1 }

essential-only : (r : PackageList) (k : ℕ) (name : List ℕ) → IsPackageAnd r.packages k (IsEssentialOf name)
    → IsPackageAnd r.packages k (λ p. p.essential ≡ true)
essential-only r k name here = at-more (IsEssentialOf name) (λ p. p.essential ≡ true) (λ p both. both.0) r.packages k here

pub none-named : (r : PackageList) (number : ℕ) (name : List ℕ) → HasNoEssential r 0 number → ¬ IsNamedBelow r number name
none-named r number name none below = none below.0 (omega arith) below.1 (essential-only r below.0 name below.2)

-- the last essential package before one tells whether its name came before
pub last-named : (r : PackageList) (number before : ℕ) (p q : Package) → IsInOrder r.packages → slice_get r.packages number ≡ Some p
    → slice_get r.packages before ≡ Some q → IsEssentialBefore r number before → IsNamedBelow r number p.name → q.name ≡ p.name
last-named r number before p q ordered is_p is_q of below =
    let e = essential-at r below.0 p.name below.2 in
    elim (cases_lt before below.0) [
      | inl later ↦ absurd (of.last below.0 (omega arith) below.1 (essential-only r below.0 p.name below.2))
      | inr earlier ↦ elim (cases_lt below.0 before) [
        | inl less ↦ between-named r.packages below.0 before number e.it q p ordered less (omega (arith, of.earlier)) (slice_get_within r.packages
            number p is_p)
            e.is is_q is_p e.named
        | inr more ↦
            let same : below.0 ≡ before = omega arith in
            let first = e.is in
            let there : slice_get r.packages below.0 ≡ Some q = ap (λ (i : ℕ). slice_get r.packages i) same ∙ is_q in
            let it : e.it ≡ q = cc in
            ap (λ (x : Package). x.name) (sym it) ∙ e.named
      ]
    ]

pub named-last : (r : PackageList) (number before : ℕ) (p q : Package) → slice_get r.packages before ≡ Some q → IsEssentialBefore r number before
    → q.name ≡ p.name → IsNamedBelow r number p.name
named-last r number before p q is_q of same = (
  before,
  of.earlier,
  at-has (IsEssentialOf p.name) r.packages before q is_q (has-at (λ x. x.essential ≡ true) r.packages before q is_q of.essential, same),
)

pub last-here : (r : PackageList) (number : ℕ) (p : Package) → slice_get r.packages number ≡ Some p → p.essential ≡ true
    → IsEssentialBefore r (number + 1) number
last-here r number p is essential = record {
  earlier = omega arith;
  essential = at-has (λ x. x.essential ≡ true) r.packages number p is essential;
  last = λ k low high. absurd (omega arith);
}

no-more : (r : PackageList) (start number : ℕ) (p : Package) → slice_get r.packages number ≡ Some p → p.essential ≡ false
    → HasNoEssential r start number → HasNoEssential r start (number + 1)
no-more r start number p is plain none k low high here =
    elim (cases_lt k number) [
      | inl early ↦ none k low early here
      | inr most ↦
          let same : k ≡ number = omega arith in
          let there : slice_get r.packages k ≡ Some p = ap (λ (i : ℕ). slice_get r.packages i) same ∙ is in
          false≢true (sym plain ∙ has-at (λ x. x.essential ≡ true) r.packages k p there here)
    ]

pub last-stays : (r : PackageList) (number : ℕ) (p : Package) (last : Option ℕ) → slice_get r.packages number ≡ Some p → p.essential ≡ false
    → IsLastEssential r number last → IsLastEssential r (number + 1) last
last-stays r number p None is plain none = no-more r 0 number p is plain none
last-stays r number p (Some k) is plain of = record {
  earlier = omega (arith, of.earlier);
  essential = of.essential;
  last = no-more r (k + 1) number p is plain of.last;
}

pub some-below : (r : PackageList) (number before : ℕ) (name : List ℕ) (q : Package) → before < number → slice_get r.packages before ≡ Some q
    → q.essential ≡ true → q.name ≡ name → IsNamedBelow r number name
some-below r number before name q short is essential same = (before, short, at-has (IsEssentialOf name) r.packages before q is (essential, same))

-- ---- fronts

abbrev NamedBefore : PackageList → ℕ → Demand → Type 0
NamedBefore r number e = IsDemand r true e × IsNamedSoFar r number e

pub named-start : (r : PackageList) (limits set : ClauseList) → IsPlainSet r limits set → IsNamedFront r 0 limits set
named-start r limits set of = set-shift (present_demands r) (IsDemand r false) (NamedBefore r 0) limits.clause_limit limits.literal_limit set to from of
  where
    to : (d : Demand) → IsDemand r false d → NamedBefore r 0 d
    to (Item a b) demand = (demand, tt)
    to (Apart a b) demand = (demand, tt)
    to (Required name) demand = absurd (omega (arith, demand.1))

    from : (d : Demand) → NamedBefore r 0 d → IsDemand r false d
    from (Item a b) before = before.0
    from (Apart a b) before = before.0
    from (Required name) before = absurd (omega (arith, before.1.1))

pub named-end : (r : PackageList) (number : ℕ) (limits set : ClauseList) → length r.packages ≤ number → IsNamedFront r number limits set
    → IsEssentialSet r limits set
named-end r number limits set past of = set-shift (present_demands r) (NamedBefore r number) (IsDemand r true) limits.clause_limit
    limits.literal_limit set (λ d before. before.0)
    from of
  where
    from : (d : Demand) → IsDemand r true d → NamedBefore r number d
    from (Item a b) demand = (demand, tt)
    from (Apart a b) demand = (demand, tt)
    from (Required name) demand =
        let some = required-at r.packages name demand in
        (demand, (some.number, omega (arith, past, within-from (IsEssentialOf name) r.packages some.number some.has), some.has))

below-wider : (r : PackageList) (number : ℕ) (name : List ℕ) → IsNamedBelow r number name → IsNamedBelow r (number + 1) name
below-wider r number name below = (below.0, omega (arith, below.1), below.2)

below-cases : (r : PackageList) (number : ℕ) (p : Package) (name : List ℕ) → slice_get r.packages number ≡ Some p → IsNamedBelow r (number + 1) name
    → IsNamedBelow r number name ⊎ ((p.essential ≡ true) × (p.name ≡ name))
below-cases r number p name is below =
    elim (cases_lt below.0 number) [
      | inl less ↦ inl (below.0, less, below.2)
      | inr most ↦
          let same : below.0 ≡ number = omega (arith, below.1) in
          inr (has-at (IsEssentialOf name) r.packages below.0 p (ap (λ (i : ℕ). slice_get r.packages i) same ∙ is) below.2)
    ]

named-wider : (r : PackageList) (number : ℕ) (d : Demand) → NamedBefore r number d → NamedBefore r (number + 1) d
named-wider r number (Item a b) before = before
named-wider r number (Apart a b) before = before
named-wider r number (Required name) before = (before.0, below-wider r number name before.1)

-- a package that is not the first essential one of its name
pub named-skipped : (r : PackageList) (number : ℕ) (p : Package) (limits set : ClauseList) → slice_get r.packages number ≡ Some p → (p.essential ≡ false)
    ⊎ IsNamedBelow r number p.name → IsNamedFront r number limits set
    → IsNamedFront r (number + 1) limits set
named-skipped r number p limits set is skipped of = set-shift (present_demands r) (NamedBefore r number) (NamedBefore r (number + 1))
    limits.clause_limit limits.literal_limit set
    (named-wider r number) from of
  where
    from : (d : Demand) → NamedBefore r (number + 1) d → NamedBefore r number d
    from (Item a b) before = before
    from (Apart a b) before = before
    from (Required name) before = (
      before.0,
      elim (below-cases r number p name is before.1) [
        | inl below ↦ below
        | inr here ↦ elim skipped [
          | inl plain ↦ absurd (false≢true (sym plain ∙ here.0))
          | inr below ↦ subst (IsNamedBelow r number) here.1 below
        ]
      ],
    )

-- names of essential packages before a number are those below the name of its package
name-before : (r : PackageList) (number : ℕ) (p : Package) (name : List ℕ) → IsInOrder r.packages → slice_get r.packages number ≡ Some p
    → ¬ IsNamedBelow r number p.name → IsNamedBelow r number name → slice_cmp nat_cmp name p.name ≡ Less
name-before r number p name ordered is first below =
    let e = essential-at r below.0 name below.2 in
    let up : slice_cmp nat_cmp e.it.name p.name ≢ Greater = names-in-order r.packages below.0 number e.it p ordered below.1 e.is is in
    elim (less-or-same e.it.name p.name up) [
      | inl less ↦ subst (λ (x : List ℕ). slice_cmp nat_cmp x p.name ≡ Less) e.named less
      | inr same ↦ absurd (first (subst (IsNamedBelow r number) (sym e.named ∙ same) below))
    ]

before-name : (r : PackageList) (number : ℕ) (p : Package) (name : List ℕ) → IsInOrder r.packages → slice_get r.packages number ≡ Some p
    → IsDemand r true (Required name) → slice_cmp nat_cmp name p.name ≡ Less → IsNamedBelow r number name
before-name r number p name ordered is demand less =
    let some = required-at r.packages name demand in
    let e = essential-at r some.number name some.has in
    elim (cases_lt some.number number) [
      | inl low ↦ (some.number, low, some.has)
      | inr high ↦ elim (cases_lt number some.number) [
        | inl behind ↦
            let up : slice_cmp nat_cmp p.name e.it.name ≢ Greater = names-in-order r.packages number some.number p e.it ordered behind is e.is in
            absurd (up (subst (λ (x : List ℕ). slice_cmp nat_cmp p.name x ≡ Greater) (sym e.named) (turned-greater name p.name less)))
        | inr most ↦
            let same : some.number ≡ number = omega arith in
            let first = e.is in
            let there : slice_get r.packages some.number ≡ Some p = ap (λ (i : ℕ). slice_get r.packages i) same ∙ is in
            let it : e.it ≡ p = cc in
            let named : p.name ≡ name = ap (λ (x : Package). x.name) (sym it) ∙ e.named in
            absurd (never-less name (subst (λ (x : List ℕ). slice_cmp nat_cmp name x ≡ Less) named less))
      ]
    ]

pub named-before : (r : PackageList) (number : ℕ) (p : Package) (c l : ℕ) (set : ClauseList) → IsInOrder r.packages → slice_get r.packages number ≡ Some p
    → ¬ IsNamedBelow r number p.name → IsSetOf r (NamedBefore r number) c l set
    → IsSetOf r (λ e. IsDemand r true e × IsBefore e (Required p.name)) c l set
named-before r number p c l set ordered is first of = set-shift (present_demands r) (NamedBefore r number) (λ e. IsDemand r true e × IsBefore e
    (Required p.name)) c l set to from
    of
  where
    to : (d : Demand) → NamedBefore r number d → IsDemand r true d × IsBefore d (Required p.name)
    to (Item a b) before = (before.0, tt)
    to (Apart a b) before = (before.0, tt)
    to (Required name) before = (before.0, name-before r number p name ordered is first before.1)

    from : (d : Demand) → IsDemand r true d × IsBefore d (Required p.name) → NamedBefore r number d
    from (Item a b) before = (before.0, tt)
    from (Apart a b) before = (before.0, tt)
    from (Required name) before = (before.0, before-name r number p name ordered is before.0 before.1)

pub named-pushed : (r : PackageList) (number : ℕ) (p : Package) (limits set : ClauseList) (clause : List Literal) → IsInOrder r.packages
    → slice_get r.packages number ≡ Some p → p.essential ≡ true → ¬ IsNamedBelow r number p.name
    → IsNamedFront r number limits set → IsClauseFor r (Required p.name) clause
    → IsNamedFront r (number + 1) limits (record set { clauses = set.clauses ++ clause ∷ [] })
named-pushed r number p limits set clause ordered is essential first of is_clause =
    set-more (present_demands r) (NamedBefore r number) (NamedBefore r (number + 1)) limits.clause_limit limits.literal_limit set (Required p.name)
    clause of is_clause below
    cases (named-wider r number)
    (required-from r.packages number p is essential, some-below r (number + 1) number p.name p (omega arith) is essential refl)
  where
    below : (d : Demand) → NamedBefore r number d → IsBefore d (Required p.name)
    below (Item a b) before = tt
    below (Apart a b) before = tt
    below (Required name) before = name-before r number p name ordered is first before.1

    cases : (d : Demand) → NamedBefore r (number + 1) d → NamedBefore r number d ⊎ (Required p.name ≡ d)
    cases (Item a b) before = inl before
    cases (Apart a b) before = inl before
    cases (Required name) before = elim (below-cases r number p name is before.1) [
      | inl earlier ↦ inl (before.0, earlier)
      | inr here ↦ inr (ap (λ (x : List ℕ). Required x) here.1)
    ]
