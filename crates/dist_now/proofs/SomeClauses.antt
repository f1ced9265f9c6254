-- There is a list of the clauses of the present: what a demand asks is decided, and each demand has a clause.
use Rattle.std.proofs.Common.{◌≡◌, ◌⊎◌, ◌↔◌, ℕ, zero, suc, ◌+◌, ◌<◌, ◌≤◌, Bool, true, false, List, [], ◌∷◌, ◌++◌, length, get_or, map, refl, sym, subst, ◌∙◌}
use Rattle.std.proofs.Common.{arith, inl, inr, Some, slice_get, length-append}
use Rattle.std.specs.Prelude.{Contains, IsSomeAnd}
use Rattle.std.specs.List.Sorted.{IsStrictlyIncreasing}
use Rattle.std.proofs.lemmas.Bool.{cases_lt, false≢true}
use Rattle.std.proofs.lemmas.List.{get_or_append_left, get_or_default, get_or_push}
use Rattle.std.proofs.lemmas.List.Elements.{Contains-append_left, Contains-push, Contains-push_cases}
use Rattle.dist_base.specs.ListLaws.{at-has, element-is, has-at, some-element, within-from}
use Rattle.dist_clause.specs.ClauseList.{ClauseList}
use Rattle.dist_clause.specs.Formula.{Literal}
use Rattle.dist_relation.specs.declared.atom.Atom.{Atom}
use Rattle.dist_repo.specs.Conflict.{AreInConflict}
use Rattle.dist_repo.specs.DecidedLaws.{any-decided, at-decided, conflict-decided, either-decided, IsDecided, matches-decided, not-decided, text-decided}
use Rattle.dist_repo.specs.Match.{Matches}
use Rattle.dist_repo.specs.Order.{IsInOrder}
use Rattle.dist_repo.specs.PackageList.{PackageList, IsPackageAnd}
use Rattle.dist_repo.specs.declared.package.Package.{Package}
use Rattle.dist_now.specs.GatheringPrivate.{IsFront, IsNamedBelow, IsNamedFront, IsPlainSet}
use Rattle.dist_now.specs.PresentClauses.{Demand, Item, Apart, Required, AreNumbersOf, ArePresentClauses, IsClauseFor, IsDemand, IsMetBy, installed}
use Rattle.dist_now.specs.PresentClauses.{not_installed}
use Rattle.dist_now.proofs.FrontLemmas.{all-items, all-pairs, front-start, item-pushed, item-skipped, items-end, pair-pushed, pair-shifted, pairs-end}
use Rattle.dist_now.proofs.ModelLemmas.{IsEssentialOf}
use Rattle.dist_now.proofs.NameFronts.{named-end, named-pushed, named-skipped, named-start}
use Rattle.dist_now.proofs.PairFronts.{pair-within}

-- ---- what is decided

met-decided : (r : PackageList) (item : List Atom) (p : Package) → IsDecided (IsMetBy r.architecture item p)
met-decided r item p = any-decided (λ atom. Matches r.architecture atom p) (λ atom. matches-decided r.architecture atom p) item

item-decided : (r : PackageList) (n k : ℕ) → IsDecided (IsDemand r false (Item n k))
item-decided r n k = at-decided (λ p. IsSomeAnd (slice_get p.depends k) (λ item. ¬ IsMetBy r.architecture item p))
    (λ p. at-decided (λ item. ¬ IsMetBy r.architecture item p) (λ item. not-decided (met-decided r item p)) p.depends k) r.packages n

apart-decided : (r : PackageList) (n k : ℕ) → IsDecided (IsDemand r false (Apart n k))
apart-decided r n k = elim (cases_lt n k) [
  | inr past ↦ inr (λ demand. omega (arith, past, demand.0))
  | inl less ↦
      elim (at-decided (λ p. IsPackageAnd r.packages k (λ q. (p.name ≡ q.name) ⊎ AreInConflict r.architecture p q))
      (λ p. at-decided (λ q. (p.name ≡ q.name) ⊎ AreInConflict r.architecture p q)
      (λ q. either-decided (text-decided p.name q.name) (conflict-decided r.architecture p q)) r.packages k) r.packages n) [
        | inl here ↦ inl (less, here)
        | inr none ↦ inr (λ demand. none demand.1)
      ]
]

-- ---- the numbers of the packages with a property

record NumbersBelow (r : PackageList) (P : Package → Type 0) (count : ℕ) : Type 0 where
  numbers : List ℕ
  rising : IsStrictlyIncreasing numbers
  exact : (k : ℕ) → Contains numbers k ↔ ((k < count) × IsPackageAnd r.packages k P)

rises-push : (xs : List ℕ) (y : ℕ) → IsStrictlyIncreasing xs → ((k : ℕ) → Contains xs k → k < y) → IsStrictlyIncreasing (xs ++ y ∷ [])
rises-push xs y rising bound k short =
    let total : length (xs ++ y ∷ []) ≡ length xs + 1 = length-append xs (y ∷ []) in
    elim (cases_lt (k + 1) (length xs)) [
      | inl h ↦
          let left = get_or_append_left xs (y ∷ []) 0 k (omega arith) in
          let right = get_or_append_left xs (y ∷ []) 0 (k + 1) h in
          omega (arith, rising k h)
      | inr h ↦
          let at : length xs ≡ k + 1 = omega arith in
          let left = get_or_append_left xs (y ∷ []) 0 k (omega arith) in
          let right = get_or_push xs y 0 (k + 1) at in
          let here : k < length xs = omega arith in
          let most = bound (get_or xs k 0) (k, here, get_or_default xs k (get_or xs k 0) 0 here) in
          omega arith
    ]

numbers-none : (r : PackageList) (P : Package → Type 0) → NumbersBelow r P 0
numbers-none r P = record {
  numbers = [];
  rising = λ k short. absurd (omega arith);
  exact = λ k. ((λ there. absurd (omega (arith, there.1))), λ both. absurd (omega (arith, both.0)));
}

numbers-more : (r : PackageList) (P : Package → Type 0) → ((p : Package) → IsDecided (P p)) → (count : ℕ) → NumbersBelow r P count
    → NumbersBelow r P (count + 1)
numbers-more r P each count before = elim (at-decided P each r.packages count) [
  | inl here ↦ record {
    numbers = before.numbers ++ count ∷ [];
    rising = rises-push before.numbers count before.rising (λ k there. ((before.exact k).0 there).0);
    exact = λ k. (
      (λ there. elim (Contains-push_cases before.numbers count k there) [
        | inl earlier ↦ let both = (before.exact k).0 earlier in (omega (arith, both.0), both.1)
        | inr same ↦ (omega arith, subst (λ (n : ℕ). IsPackageAnd r.packages n P) same here)
      ]),
      λ both. elim (cases_lt k count) [
        | inl less ↦ Contains-append_left before.numbers (count ∷ []) k ((before.exact k).1 (less, both.1))
        | inr most ↦ let same : count ≡ k = omega (arith, both.0) in subst (Contains (before.numbers ++ count ∷ [])) same (Contains-push before.numbers count)
      ],
    );
  }
  | inr none ↦ record {
    numbers = before.numbers;
    rising = before.rising;
    exact = λ k. (
      (λ there. let both = (before.exact k).0 there in (omega (arith, both.0), both.1)),
      λ both. elim (cases_lt k count) [
        | inl less ↦ (before.exact k).1 (less, both.1)
        | inr most ↦ let same : k ≡ count = omega (arith, both.0) in absurd (none (subst (λ (n : ℕ). IsPackageAnd r.packages n P) same both.1))
      ],
    );
  }
]

numbers-below : (r : PackageList) (P : Package → Type 0) → ((p : Package) → IsDecided (P p)) → (count : ℕ) → NumbersBelow r P count
numbers-below r P each zero = numbers-none r P
numbers-below r P each (suc count) =
    let next : count + 1 ≡ suc count = omega arith in subst (NumbersBelow r P) next (numbers-more r P each count (numbers-below r P each count))

record SomeNumbers (r : PackageList) (P : Package → Type 0) : Type 0 where
  numbers : List ℕ
  are : AreNumbersOf r P numbers

some-numbers : (r : PackageList) (P : Package → Type 0) → ((p : Package) → IsDecided (P p)) → SomeNumbers r P
some-numbers r P each =
    let all = numbers-below r P each (length r.packages) in
    record {
      numbers = all.numbers;
      are = record {
        rising = all.rising;
        exact = λ k. ((λ there. ((all.exact k).0 there).1), λ here. (all.exact k).1 (within-from P r.packages k here, here));
      };
    }

-- ---- a clause for each demand

record SomeClause (r : PackageList) (d : Demand) : Type 0 where
  clause : List Literal
  is_clause : IsClauseFor r d clause

item-has-clause : (r : PackageList) (n k : ℕ) → IsDemand r false (Item n k) → SomeClause r (Item n k)
item-has-clause r n k demand =
    let Other : Package → List Atom → Type 0 = λ p item. ¬ IsMetBy r.architecture item p in
    let Holder : Package → Type 0 = λ p. IsSomeAnd (slice_get p.depends k) (Other p) in
    let p = some-element Holder r.packages n demand in
    let is_p = element-is Holder r.packages n demand in
    let inner : Holder p = has-at Holder r.packages n p is_p demand in
    let item = some-element (Other p) p.depends k inner in
    let is_item = element-is (Other p) p.depends k inner in
    let some = some-numbers r (IsMetBy r.architecture item) (met-decided r item) in
    let Numbers : Package → List Atom → Type 0 = λ q i. AreNumbersOf r (IsMetBy r.architecture i) some.numbers in
    record {
      clause = not_installed n ∷ map installed some.numbers;
      is_clause = (
        some.numbers,
        at-has (λ (q : Package). IsSomeAnd (slice_get q.depends k) (Numbers q)) r.packages n p is_p
            (at-has (Numbers p) p.depends k item is_item some.are),
        refl,
      );
    }

name-has-clause : (r : PackageList) (name : List ℕ) → SomeClause r (Required name)
name-has-clause r name =
    let some = some-numbers r (λ p. p.name ≡ name) (λ p. text-decided p.name name) in
    record { clause = map installed some.numbers; is_clause = (some.numbers, some.are, refl) }

-- ---- one front after another

-- some set with a property
record Some-set (P : ClauseList → Type 0) : Type 0 where
  set : ClauseList
  has : P set

abbrev empty : PackageList → ClauseList
empty r = record { clauses = []; variables = length r.packages; clause_limit = 0; literal_limit = 0 }

item-step : (r : PackageList) (n k : ℕ) → Some-set (IsFront r (Item n k) (empty r)) → Some-set (IsFront r (Item n (k + 1)) (empty r))
item-step r n k before = elim (item-decided r n k) [
  | inr none ↦ record { set = before.set; has = item-skipped r n k (empty r) before.set before.has none }
  | inl demand ↦ let some = item-has-clause r n k demand in
      record {
        set = record before.set { clauses = before.set.clauses ++ some.clause ∷ [] };
        has = item-pushed r n k (empty r) before.set some.clause before.has demand some.is_clause;
      }
]

items-to : (r : PackageList) (n k : ℕ) → Some-set (IsFront r (Item n 0) (empty r)) → Some-set (IsFront r (Item n k) (empty r))
items-to r n zero start = start
items-to r n (suc k) start =
    let next : k + 1 ≡ suc k = omega arith in subst (λ (i : ℕ). Some-set (IsFront r (Item n i) (empty r))) next (item-step r n k (items-to r n k start))

-- the element at a place within a list
record At {X : Type 0} (xs : List X) (k : ℕ) : Type 0 where
  value : X
  is : slice_get xs k ≡ Some value

at-within : {X : Type 0} (xs : List X) (k : ℕ) → k < length xs → At xs k
at-within [] k short = absurd (omega arith)
at-within (x ∷ xs) zero short = record { value = x; is = refl }
at-within (x ∷ xs) (suc k) short = let at = at-within xs k (omega arith) in record { value = at.value; is = at.is }

items-of : (r : PackageList) (n : ℕ) → n < length r.packages → Some-set (IsFront r (Item n 0) (empty r)) → Some-set (IsFront r (Item (n + 1) 0) (empty r))
items-of r n short start =
    let p = at-within r.packages n short in
    let at = items-to r n (length p.value.depends) start in
    record { set = at.set; has = items-end r n (length p.value.depends) p.value (empty r) at.set p.is (omega arith) at.has }

packages-to : (r : PackageList) (n : ℕ) → n ≤ length r.packages → Some-set (IsFront r (Item n 0) (empty r))
packages-to r zero within = record {
  set = empty r;
  has = record { clauses = front-start r; variables = refl; clause_limit_is = refl; literal_limit_is = refl };
}
packages-to r (suc n) within =
    let next : n + 1 ≡ suc n = omega arith in
    subst (λ (i : ℕ). Some-set (IsFront r (Item i 0) (empty r))) next (items-of r n (omega arith) (packages-to r n (omega arith)))

pair-step : (r : PackageList) (n k : ℕ) → Some-set (IsFront r (Apart n k) (empty r)) → Some-set (IsFront r (Apart n (k + 1)) (empty r))
pair-step r n k before = elim (apart-decided r n k) [
  | inr none ↦ record {
    set = before.set;
    has = pair-shifted r n k (k + 1) (empty r) before.set (omega arith)
        (λ i low high demand. none (let same : i ≡ k = omega arith in subst (λ (j : ℕ). IsDemand r false (Apart n j)) same demand)) before.has;
  }
  | inl demand ↦
      let clause : List Literal = not_installed n ∷ not_installed k ∷ [] in
      record {
        set = record before.set { clauses = before.set.clauses ++ clause ∷ [] };
        has = pair-pushed r n k (empty r) before.set clause before.has demand refl;
      }
]

pairs-to : (r : PackageList) (n k : ℕ) → Some-set (IsFront r (Apart n 0) (empty r)) → Some-set (IsFront r (Apart n k) (empty r))
pairs-to r n zero start = start
pairs-to r n (suc k) start =
    let next : k + 1 ≡ suc k = omega arith in subst (λ (i : ℕ). Some-set (IsFront r (Apart n i) (empty r))) next (pair-step r n k (pairs-to r n k start))

rows-to : (r : PackageList) (n : ℕ) → Some-set (IsFront r (Apart 0 0) (empty r)) → Some-set (IsFront r (Apart n 0) (empty r))
rows-to r zero start = start
rows-to r (suc n) start =
    let next : n + 1 ≡ suc n = omega arith in
    let at = pairs-to r n (length r.packages) (rows-to r n start) in
    let has = pairs-end r n (length r.packages) (empty r) at.set (λ i past demand. let short = pair-within r n i demand in omega arith) at.has in
    subst (λ (i : ℕ). Some-set (IsFront r (Apart i 0) (empty r))) next (record { set = at.set; has = has })

plain : (r : PackageList) → Some-set (IsPlainSet r (empty r))
plain r =
    let items = packages-to r (length r.packages) (omega arith) in
    let start = all-items r (length r.packages) (empty r) items.set (omega arith) items.has in
    let rows = rows-to r (length r.packages) (record { set = items.set; has = start }) in
    record { set = rows.set; has = all-pairs r (length r.packages) (empty r) rows.set (omega arith) rows.has }

-- ---- names

essential-decided : (name : List ℕ) (p : Package) → IsDecided (IsEssentialOf name p)
essential-decided name p = by p.essential refl
  where
    by : (b : Bool) → p.essential ≡ b → IsDecided (IsEssentialOf name p)
    by false is = inr (λ both. false≢true (sym is ∙ both.0))
    by true is = elim (text-decided p.name name) [
      | inl same ↦ inl (is, same)
      | inr other ↦ inr (λ both. other both.1)
    ]

below-decided : (r : PackageList) (name : List ℕ) (n : ℕ) → IsDecided (IsNamedBelow r n name)
below-decided r name zero = inr (λ below. omega (arith, below.1))
below-decided r name (suc n) = elim (below-decided r name n) [
  | inl below ↦ inl (below.0, omega (arith, below.1), below.2)
  | inr none ↦ elim (at-decided (IsEssentialOf name) (essential-decided name) r.packages n) [
    | inl here ↦ inl (n, omega arith, here)
    | inr other ↦ inr (λ below. elim (cases_lt below.0 n) [
      | inl less ↦ none (below.0, less, below.2)
      | inr most ↦ let same : below.0 ≡ n = omega (arith, below.1) in other (subst (λ (i : ℕ). IsPackageAnd r.packages i (IsEssentialOf name)) same below.2)
    ])
  ]
]

name-step : (r : PackageList) (n : ℕ) → IsInOrder r.packages → n < length r.packages → Some-set (IsNamedFront r n (empty r))
    → Some-set (IsNamedFront r (n + 1) (empty r))
name-step r n ordered short before = by at.value.essential refl (below-decided r at.value.name n)
  where
    at : At r.packages n
    at = at-within r.packages n short

    by : (b : Bool) → at.value.essential ≡ b → IsDecided (IsNamedBelow r n at.value.name) → Some-set (IsNamedFront r (n + 1) (empty r))
    by false is decided = record { set = before.set; has = named-skipped r n at.value (empty r) before.set at.is (inl is) before.has }
    by true is (inl below) = record { set = before.set; has = named-skipped r n at.value (empty r) before.set at.is (inr below) before.has }
    by true is (inr first) = let some = name-has-clause r at.value.name in
        record {
          set = record before.set { clauses = before.set.clauses ++ some.clause ∷ [] };
          has = named-pushed r n at.value (empty r) before.set some.clause ordered at.is is first before.has some.is_clause;
        }

names-to : (r : PackageList) (n : ℕ) → IsInOrder r.packages → n ≤ length r.packages → Some-set (IsNamedFront r n (empty r))
names-to r zero ordered within = let start = plain r in record { set = start.set; has = named-start r (empty r) start.set start.has }
names-to r (suc n) ordered within =
    let next : n + 1 ≡ suc n = omega arith in
    subst (λ (i : ℕ). Some-set (IsNamedFront r i (empty r))) next (name-step r n ordered (omega arith) (names-to r n ordered (omega arith)))

pub some-clauses : (r : PackageList) (essential : Bool) → IsInOrder r.packages → (clauses : List (List Literal)) × ArePresentClauses r essential clauses
some-clauses r false ordered = let all = plain r in (all.set.clauses, all.has.clauses)
some-clauses r true ordered =
    let front = names-to r (length r.packages) ordered (omega arith) in
    let all = named-end r (length r.packages) (empty r) front.set (omega arith) front.has in
    (front.set.clauses, all.clauses)
