-- The pairs of one package, in the order of their second numbers.
use Rattle.std.proofs.Common.{◌≡◌, ◌⊎◌, ◌↔◌, ℕ, ◌+◌, ◌<◌, ◌≤◌, false, List, [], ◌∷◌, ◌++◌, length, get_or, refl, ap, ap₂, ◌∙◌, arith, inl, inr, Some, slice_get}
use Rattle.std.specs.Prelude.{Contains}
use Rattle.std.specs.List.Sorted.{IsStrictlyIncreasing}
use Rattle.std.proofs.lemmas.Bool.{cases_lt}
use Rattle.std.proofs.lemmas.List.{get_or_default}
use Rattle.std.proofs.lemmas.List.Kept.{AllPairs-from_increasing}
use Rattle.dist_base.specs.ListLaws.{at-has, at-more, element-is, has-at, some-element, within-from}
use Rattle.dist_clause.specs.ClauseList.{ClauseList}
use Rattle.dist_clause.specs.Formula.{Literal}
use Rattle.dist_repo.specs.Conflict.{AreInConflict}
use Rattle.dist_repo.specs.Order.{IsInOrder}
use Rattle.dist_repo.specs.PackageList.{PackageList, IsPackageAnd}
use Rattle.dist_repo.specs.declared.package.Package.{Package}
use Rattle.dist_now.specs.GatheringPrivate.{Adds, IsFront, IsPairWith, IsRejectingPair, Rejects}
use Rattle.dist_now.specs.Partners.{IsPartner}
use Rattle.dist_now.specs.PresentClauses.{Apart, IsDemand, not_installed}
use Rattle.dist_now.proofs.AddsLemmas.{adds-exact}
use Rattle.dist_now.proofs.ConflictLemmas.{never-same}
use Rattle.dist_now.proofs.FrontLemmas.{pair-pushed, pair-shifted, pairs-end}
use Rattle.dist_now.proofs.VersionLemmas.{IsVersion}

-- the second numbers of the demands of a package
abbrev pub AreSeconds : PackageList → ℕ → List ℕ → Type 0
AreSeconds r first seconds = (second : ℕ) → Contains seconds second ↔ IsDemand r false (Apart first second)

-- the clauses with the first numbers of a list were added: those below a bound
pub record IsPairFront (r : PackageList) (first : ℕ) (seconds : List ℕ) (count : ℕ) (limits set : ClauseList) : Type 0 where
  pub bound : ℕ
  pub low : (k : ℕ) → k < count → k < length seconds → get_or seconds k 0 < bound
  pub high : (k : ℕ) → count ≤ k → k < length seconds → bound ≤ get_or seconds k 0
  pub front : IsFront r (Apart first bound) limits set

pub pairs-start : (r : PackageList) (first : ℕ) (seconds : List ℕ) (limits set : ClauseList) → IsFront r (Apart first 0) limits set
    → IsPairFront r first seconds 0 limits set
pairs-start r first seconds limits set front = record {
  bound = 0;
  low = λ k less short. absurd (omega arith);
  high = λ k more short. omega arith;
  front = front;
}

rises : (seconds : List ℕ) (i j : ℕ) → IsStrictlyIncreasing seconds → i < j → j < length seconds → get_or seconds i 0 < get_or seconds j 0
rises seconds i j rising less short = AllPairs-from_increasing seconds rising i j 0 less short

at-index : (seconds : List ℕ) (k : ℕ) (there : Contains seconds k) → get_or seconds there.0 0 ≡ k
at-index seconds k there = get_or_default seconds there.0 0 k there.1 ∙ there.2

-- the front up to the next number
pub pair-next : (r : PackageList) (first : ℕ) (seconds : List ℕ) (count : ℕ) (limits set : ClauseList) → IsStrictlyIncreasing seconds
    → AreSeconds r first seconds → count < length seconds → IsPairFront r first seconds count limits set
    → IsFront r (Apart first (get_or seconds count 0)) limits set
pair-next r first seconds count limits set rising are short of =
    pair-shifted r first of.bound (get_or seconds count 0) limits set (of.high count (omega arith) short)
    (λ i up below demand.
    let there : Contains seconds i = (are i).1 demand in
    let is = at-index seconds i there in
    elim (cases_lt there.0 count) [
      | inl less ↦ let h = of.low there.0 less there.1 in omega arith
      | inr more ↦ elim (cases_lt count there.0) [
        | inl less ↦ let h = rises seconds count there.0 rising less there.1 in omega arith
        | inr most ↦ let same : there.0 ≡ count = omega arith in let also : get_or seconds there.0 0 ≡ get_or seconds count 0 =
            ap (λ (n : ℕ). get_or seconds n 0) same in omega arith
      ]
    ])
    of.front

pub second-demand : (r : PackageList) (first : ℕ) (seconds : List ℕ) (count : ℕ) → AreSeconds r first seconds → count < length seconds
    → IsDemand r false (Apart first (get_or seconds count 0))
second-demand r first seconds count are short = (are (get_or seconds count 0)).0 (count, short, get_or_default seconds count (get_or seconds count 0) 0 short)

pub pair-more : (r : PackageList) (first : ℕ) (seconds : List ℕ) (count : ℕ) (limits set : ClauseList) (clause : List Literal) → IsStrictlyIncreasing seconds
    → AreSeconds r first seconds → count < length seconds → IsPairFront r first seconds count limits set
    → clause ≡ not_installed first ∷ not_installed (get_or seconds count 0) ∷ []
    → IsPairFront r first seconds (count + 1) limits (record set { clauses = set.clauses ++ clause ∷ [] })
pair-more r first seconds count limits set clause rising are short of is = record {
  bound = get_or seconds count 0 + 1;
  low = λ k less within. elim (cases_lt k count) [
    | inl early ↦ let h = rises seconds k count rising early short in omega arith
    | inr most ↦ let same : k ≡ count = omega arith in let also : get_or seconds k 0 ≡ get_or seconds count 0 = ap (λ (n : ℕ). get_or seconds n 0) same in
        omega arith
  ];
  high = λ k more within. let h = rises seconds count k rising (omega arith) within in omega arith;
  front = pair-pushed r first (get_or seconds count 0) limits set clause (pair-next r first seconds count limits set rising are short of)
      (second-demand r first seconds count are short) is;
}

pub pairs-done : (r : PackageList) (first : ℕ) (seconds : List ℕ) (count : ℕ) (limits set : ClauseList) → AreSeconds r first seconds → length seconds ≤ count
    → IsPairFront r first seconds count limits set → IsFront r (Apart (first + 1) 0) limits set
pairs-done r first seconds count limits set are past of =
    pairs-end r first of.bound limits set
    (λ i up demand.
    let there : Contains seconds i = (are i).1 demand in
    let is = at-index seconds i there in
    let h = of.low there.0 (omega (arith, past, there.1)) there.1 in
    omega arith)
    of.front

-- ---- which they are

pub rejecting-partner : (r : PackageList) (first second : ℕ) → IsInOrder r.packages → IsRejectingPair r (first, second) → IsPartner r first second
rejecting-partner r first second ordered rejecting =
    let n = rejecting.0 in
    let With : Package → Type 0 = λ p. IsPairWith r n (Rejects r p) (first, second) in
    let p = some-element With r.packages n rejecting.1 in
    let is_p = element-is With r.packages n rejecting.1 in
    let with = has-at With r.packages n p is_p rejecting.1 in
    let q = some-element (Rejects r p) r.packages with.other with.has in
    let is_q = element-is (Rejects r p) r.packages with.other with.has in
    let rejects : Rejects r p q = has-at (Rejects r p) r.packages with.other q is_q with.has in
    let less : first < second = with.is_pair.rising in
    let Apart : Package → Package → Type 0 = AreInConflict r.architecture in
    elim with.is_pair.are [
      | inl h ↦
          let at_p : slice_get r.packages first ≡ Some p = ap (λ (i : ℕ). slice_get r.packages i) h.0 ∙ is_p in
          let at_q : slice_get r.packages second ≡ Some q = ap (λ (i : ℕ). slice_get r.packages i) h.1 ∙ is_q in (
            less,
            at-has (λ (x : Package). IsPackageAnd r.packages second (Apart x)) r.packages first p at_p (at-has (Apart p) r.packages second q at_q
                (record { different = never-same r.packages first second p q ordered less at_p at_q; matched = inl rejects })),
          )
      | inr h ↦
          let at_q : slice_get r.packages first ≡ Some q = ap (λ (i : ℕ). slice_get r.packages i) h.0 ∙ is_q in
          let at_p : slice_get r.packages second ≡ Some p = ap (λ (i : ℕ). slice_get r.packages i) h.1 ∙ is_p in (
            less,
            at-has (λ (x : Package). IsPackageAnd r.packages second (Apart x)) r.packages first q at_q (at-has (Apart q) r.packages second p at_p
                (record { different = never-same r.packages first second q p ordered less at_q at_p; matched = inr rejects })),
          )
    ]

pub partner-rejects : (r : PackageList) (first second : ℕ) (p q : Package) → first < second → slice_get r.packages first ≡ Some p
    → slice_get r.packages second ≡ Some q → AreInConflict r.architecture p q → IsRejectingPair r (first, second)
partner-rejects r first second p q less is_p is_q conflict =
    elim conflict.matched [
      | inl rejects ↦ (
        first,
        at-has (λ (x : Package). IsPairWith r first (Rejects r x) (first, second)) r.packages first p is_p
            (record {
              other = second;
              is_pair = record { are = inl (refl, refl); rising = less };
              has = at-has (Rejects r p) r.packages second q is_q rejects;
            }),
      )
      | inr rejects ↦ (
        second,
        at-has (λ (x : Package). IsPairWith r second (Rejects r x) (first, second)) r.packages second q is_q
            (record {
              other = first;
              is_pair = record { are = inr (refl, refl); rising = less };
              has = at-has (Rejects r q) r.packages first p is_p rejects;
            }),
      )
    ]

abbrev Apart-either : PackageList → Package → Package → Type 0
Apart-either r x y = (x.name ≡ y.name) ⊎ AreInConflict r.architecture x y

pub seconds-are : (r : PackageList) (first : ℕ) (p : Package) (pairs : List (ℕ × ℕ)) (mid old new : List ℕ) → IsInOrder r.packages
    → slice_get r.packages first ≡ Some p → ((k : ℕ) → Contains pairs (first, k) ↔ IsRejectingPair r (first, k))
    → Adds [] mid (IsVersion r first p.name) → Adds mid old (λ k. Contains pairs (first, k)) → ((k : ℕ) → Contains new k ↔ Contains old k)
    → AreSeconds r first new
seconds-are r first p pairs mid old new ordered is_p exact versions partners same second = (
  (λ there. elim ((partners second).0 ((same second).0 there)) [
    | inl version ↦ from-version ((adds-exact mid (IsVersion r first p.name) versions second).0 version)
    | inr pair ↦ from-partner (rejecting-partner r first second ordered ((exact second).0 pair))
  ]),
  λ demand. (same second).1 (to demand),
)
  where
    from-version : IsVersion r first p.name second → IsDemand r false (Apart first second)
    from-version version = (
      version.0,
      at-has (λ (x : Package). IsPackageAnd r.packages second (Apart-either r x)) r.packages first p is_p
          (at-more (λ (q : Package). p.name ≡ q.name) (Apart-either r p) (λ q named. inl named) r.packages second version.1),
    )

    from-partner : IsPartner r first second → IsDemand r false (Apart first second)
    from-partner partner = (
      partner.0,
      at-more (λ (x : Package). IsPackageAnd r.packages second (AreInConflict r.architecture x))
          (λ (x : Package). IsPackageAnd r.packages second (Apart-either r x))
          (λ x inner. at-more (AreInConflict r.architecture x) (Apart-either r x) (λ y conflict. inr conflict) r.packages second inner)
          r.packages first partner.1,
    )

    to : IsDemand r false (Apart first second) → Contains old second
    to demand =
        let inner : IsPackageAnd r.packages second (Apart-either r p) =
        has-at (λ (x : Package). IsPackageAnd r.packages second (Apart-either r x)) r.packages first p is_p demand.1 in
        let q = some-element (Apart-either r p) r.packages second inner in
        let is_q = element-is (Apart-either r p) r.packages second inner in
        let either : Apart-either r p q = has-at (Apart-either r p) r.packages second q is_q inner in
        elim either [
          | inl named ↦ (partners second).1 (inl ((adds-exact mid (IsVersion r first p.name) versions second).1
              (demand.0, at-has (λ (z : Package). p.name ≡ z.name) r.packages second q is_q named)))
          | inr conflict ↦ (partners second).1 (inr ((exact second).1 (partner-rejects r first second p q demand.0 is_p is_q conflict)))
        ]

pub pair-within : (r : PackageList) (first second : ℕ) → IsDemand r false (Apart first second) → second < length r.packages
pair-within r first second demand =
    let Inner : Package → Type 0 = λ p. IsPackageAnd r.packages second (Apart-either r p) in
    let p = some-element Inner r.packages first demand.1 in
    within-from (Apart-either r p) r.packages second (has-at Inner r.packages first p (element-is Inner r.packages first demand.1) demand.1)

pub pair-written : (r : PackageList) (first second : ℕ) (a b : Literal) → a ≡ not_installed first → b ≡ not_installed second
    → (a ∷ b ∷ []) ≡ (not_installed first ∷ not_installed second ∷ [])
pair-written r first second a b one two = ap₂ (λ x y. x ∷ y ∷ []) one two
