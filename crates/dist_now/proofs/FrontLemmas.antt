-- Fronts of the clauses of the present, up to an item or a pair, and why a set stops there.
use Rattle.std.proofs.Common.{◌≡◌, ◌⊎◌, ℕ, ◌+◌, ◌<◌, ◌≤◌, Bool, false, List, [], ◌∷◌, ◌++◌, length, refl, sym, ap, ap₂, subst, ◌∙◌, arith, inl, inr, Some}
use Rattle.std.proofs.Common.{slice_get}
use Rattle.std.specs.Prelude.{IsSomeAnd}
use Rattle.std.proofs.lemmas.Bool.{cases_lt}
use Rattle.dist_base.specs.ListLaws.{has-at, within-from}
use Rattle.dist_clause.specs.ClauseList.{ClauseList}
use Rattle.dist_clause.specs.DemandLaws.{cause-chain, clauses-none, clauses-shift, set-more, set-shift}
use Rattle.dist_clause.specs.Demands as made
use Rattle.dist_clause.specs.Formula.{Literal}
use Rattle.dist_clause.specs.declared.clause_set.PushError.{PushError}
use Rattle.dist_clause.specs.declared.clause_set.PushError.TheVariants.{TooManyClauses, TooManyLiterals, NoMemory}
use Rattle.dist_repo.specs.PackageList.{PackageList}
use Rattle.dist_repo.specs.declared.package.Package.{Package}
use Rattle.dist_now.specs.GatheringPrivate.{IsCauseAt, IsFront, IsPlainSet}
use Rattle.dist_now.specs.PresentClauses.{Demand, Item, Apart, Required, AreClausesOf, IsBefore, IsClauseFor, IsDemand, IsMetBy, present_demands}
use Rattle.dist_now.specs.PresentSet.{IsCause, IsSetOf}

-- the demands before one
abbrev pub Before : PackageList → Demand → Demand → Type 0
Before r d e = IsDemand r false e × IsBefore e d

-- ---- items

not-required : (r : PackageList) (name : List ℕ) → ¬ IsDemand r false (Required name)
not-required r name there = omega (arith, there.1)

pub front-start : (r : PackageList) → AreClausesOf r (Before r (Item 0 0)) []
front-start r = clauses-none (present_demands r) (Before r (Item 0 0)) none
  where
    none : (d : Demand) → ¬ Before r (Item 0 0) d
    none (Item n k) (demand, inl less) = omega arith
    none (Item n k) (demand, inr less) = omega (arith, less.1)
    none (Apart n k) (demand, before) = before
    none (Required name) (demand, before) = before

item-wider : (r : PackageList) (n k : ℕ) (d : Demand) → Before r (Item n k) d → Before r (Item n (k + 1)) d
item-wider r n k (Item a b) (demand, inl less) = (demand, inl less)
item-wider r n k (Item a b) (demand, inr less) = (demand, inr (less.0, omega (arith, less.1)))
item-wider r n k (Apart a b) (demand, before) = absurd before
item-wider r n k (Required name) (demand, before) = absurd before

item-cases : (r : PackageList) (n k : ℕ) (d : Demand) → Before r (Item n (k + 1)) d → Before r (Item n k) d ⊎ (Item n k ≡ d)
item-cases r n k (Item a b) (demand, inl less) = inl (demand, inl less)
item-cases r n k (Item a b) (demand, inr less) = elim (cases_lt b k) [
  | inl low ↦ inl (demand, inr (less.0, low))
  | inr high ↦ let same : b ≡ k = omega (arith, less.1) in inr (ap₂ (λ x y. Item x y) (sym less.0) (sym same))
]
item-cases r n k (Apart a b) (demand, before) = absurd before
item-cases r n k (Required name) (demand, before) = absurd before

pub item-pushed : (r : PackageList) (n k : ℕ) (limits set : ClauseList) (clause : List Literal) → IsFront r (Item n k) limits set → IsDemand r false (Item n k)
    → IsClauseFor r (Item n k) clause
    → IsFront r (Item n (k + 1)) limits (record set { clauses = set.clauses ++ clause ∷ [] })
item-pushed r n k limits set clause of demand is =
    set-more (present_demands r) (Before r (Item n k)) (Before r (Item n (k + 1))) limits.clause_limit limits.literal_limit set (Item n k) clause of
    is (λ e before. before.1)
    (item-cases r n k) (item-wider r n k) (demand, inr (refl, omega arith))

pub item-skipped : (r : PackageList) (n k : ℕ) (limits set : ClauseList) → IsFront r (Item n k) limits set → ¬ IsDemand r false (Item n k)
    → IsFront r (Item n (k + 1)) limits set
item-skipped r n k limits set of none =
    set-shift (present_demands r) (Before r (Item n k)) (Before r (Item n (k + 1))) limits.clause_limit limits.literal_limit set (item-wider r n k)
    (λ e before. elim (item-cases r n k e before) [
      | inl earlier ↦ earlier
      | inr same ↦ absurd (none (subst (IsDemand r false) (sym same) before.0))
    ]) of

pub items-end : (r : PackageList) (n k : ℕ) (p : Package) (limits set : ClauseList) → slice_get r.packages n ≡ Some p → length p.depends ≤ k
    → IsFront r (Item n k) limits set → IsFront r (Item (n + 1) 0) limits set
items-end r n k p limits set is past of = set-shift (present_demands r) (Before r (Item n k)) (Before r (Item (n + 1) 0)) limits.clause_limit
    limits.literal_limit set to from of
  where
    to : (d : Demand) → Before r (Item n k) d → Before r (Item (n + 1) 0) d
    to (Item a b) (demand, inl less) = (demand, inl (omega arith))
    to (Item a b) (demand, inr less) = (demand, inl (omega (arith, less.0)))
    to (Apart a b) (demand, before) = absurd before
    to (Required name) (demand, before) = absurd before

    from : (d : Demand) → Before r (Item (n + 1) 0) d → Before r (Item n k) d
    from (Item a b) (demand, inr less) = absurd (omega (arith, less.1))
    from (Item a b) (demand, inl less) = elim (cases_lt a n) [
      | inl low ↦ (demand, inl low)
      | inr high ↦
          let same : a ≡ n = omega arith in
          let Here : Package → Type 0 = λ q. IsSomeAnd (slice_get q.depends b) (λ item. ¬ IsMetBy r.architecture item q) in
          let here : Here p = has-at Here r.packages a p (ap (λ (i : ℕ). slice_get r.packages i) same ∙ is) demand in
          (demand, inr (same, omega (arith, past, within-from (λ item. ¬ IsMetBy r.architecture item p) p.depends b here)))
    ]
    from (Apart a b) (demand, before) = absurd before
    from (Required name) (demand, before) = absurd before

item-within : (r : PackageList) (a b : ℕ) → IsDemand r false (Item a b) → a < length r.packages
item-within r a b demand = within-from (λ q. IsSomeAnd (slice_get q.depends b) (λ item. ¬ IsMetBy r.architecture item q)) r.packages a demand

pub all-items : (r : PackageList) (n : ℕ) (limits set : ClauseList) → length r.packages ≤ n → IsFront r (Item n 0) limits set → IsFront r (Apart 0 0) limits set
all-items r n limits set past of = set-shift (present_demands r) (Before r (Item n 0)) (Before r (Apart 0 0)) limits.clause_limit
    limits.literal_limit set to from of
  where
    to : (d : Demand) → Before r (Item n 0) d → Before r (Apart 0 0) d
    to (Item a b) (demand, before) = (demand, tt)
    to (Apart a b) (demand, before) = absurd before
    to (Required name) (demand, before) = absurd before

    from : (d : Demand) → Before r (Apart 0 0) d → Before r (Item n 0) d
    from (Item a b) (demand, before) = (demand, inl (omega (arith, past, item-within r a b demand)))
    from (Apart a b) (demand, inl less) = absurd (omega arith)
    from (Apart a b) (demand, inr less) = absurd (omega (arith, less.1))
    from (Required name) (demand, before) = absurd before

-- ---- pairs

pub pair-shifted : (r : PackageList) (n k m : ℕ) (limits set : ClauseList) → k ≤ m → ((i : ℕ) → k ≤ i → i < m → ¬ IsDemand r false (Apart n i))
    → IsFront r (Apart n k) limits set → IsFront r (Apart n m) limits set
pair-shifted r n k m limits set up none of = set-shift (present_demands r) (Before r (Apart n k)) (Before r (Apart n m)) limits.clause_limit
    limits.literal_limit set to from of
  where
    to : (d : Demand) → Before r (Apart n k) d → Before r (Apart n m) d
    to (Item a b) (demand, before) = (demand, tt)
    to (Apart a b) (demand, inl less) = (demand, inl less)
    to (Apart a b) (demand, inr less) = (demand, inr (less.0, omega (arith, up, less.1)))
    to (Required name) (demand, before) = absurd before

    from : (d : Demand) → Before r (Apart n m) d → Before r (Apart n k) d
    from (Item a b) (demand, before) = (demand, tt)
    from (Apart a b) (demand, inl less) = (demand, inl less)
    from (Apart a b) (demand, inr less) = elim (cases_lt b k) [
      | inl low ↦ (demand, inr (less.0, low))
      | inr high ↦ absurd (none b high less.1 (subst (λ (i : ℕ). IsDemand r false (Apart i b)) less.0 demand))
    ]
    from (Required name) (demand, before) = absurd before

pub pair-pushed : (r : PackageList) (n k : ℕ) (limits set : ClauseList) (clause : List Literal) → IsFront r (Apart n k) limits set
    → IsDemand r false (Apart n k) → IsClauseFor r (Apart n k) clause
    → IsFront r (Apart n (k + 1)) limits (record set { clauses = set.clauses ++ clause ∷ [] })
pair-pushed r n k limits set clause of demand is =
    set-more (present_demands r) (Before r (Apart n k)) (Before r (Apart n (k + 1))) limits.clause_limit limits.literal_limit set (Apart n k) clause
    of is (λ e before. before.1)
    cases wider (demand, inr (refl, omega arith))
  where
    cases : (d : Demand) → Before r (Apart n (k + 1)) d → Before r (Apart n k) d ⊎ (Apart n k ≡ d)
    cases (Item a b) (demand, before) = inl (demand, tt)
    cases (Apart a b) (demand, inl less) = inl (demand, inl less)
    cases (Apart a b) (demand, inr less) = elim (cases_lt b k) [
      | inl low ↦ inl (demand, inr (less.0, low))
      | inr high ↦ let same : b ≡ k = omega (arith, less.1) in inr (ap₂ (λ x y. Apart x y) (sym less.0) (sym same))
    ]
    cases (Required name) (demand, before) = absurd before

    wider : (d : Demand) → Before r (Apart n k) d → Before r (Apart n (k + 1)) d
    wider (Item a b) (demand, before) = (demand, tt)
    wider (Apart a b) (demand, inl less) = (demand, inl less)
    wider (Apart a b) (demand, inr less) = (demand, inr (less.0, omega (arith, less.1)))
    wider (Required name) (demand, before) = absurd before

pub pairs-end : (r : PackageList) (n k : ℕ) (limits set : ClauseList) → ((i : ℕ) → k ≤ i → ¬ IsDemand r false (Apart n i)) → IsFront r (Apart n k) limits set
    → IsFront r (Apart (n + 1) 0) limits set
pairs-end r n k limits set none of = set-shift (present_demands r) (Before r (Apart n k)) (Before r (Apart (n + 1) 0)) limits.clause_limit
    limits.literal_limit set to from of
  where
    to : (d : Demand) → Before r (Apart n k) d → Before r (Apart (n + 1) 0) d
    to (Item a b) (demand, before) = (demand, tt)
    to (Apart a b) (demand, inl less) = (demand, inl (omega arith))
    to (Apart a b) (demand, inr less) = (demand, inl (omega (arith, less.0)))
    to (Required name) (demand, before) = absurd before

    from : (d : Demand) → Before r (Apart (n + 1) 0) d → Before r (Apart n k) d
    from (Item a b) (demand, before) = (demand, tt)
    from (Apart a b) (demand, inr less) = absurd (omega (arith, less.1))
    from (Apart a b) (demand, inl less) = elim (cases_lt a n) [
      | inl low ↦ (demand, inl low)
      | inr high ↦
          let same : a ≡ n = omega arith in
          elim (cases_lt b k) [
            | inl low ↦ (demand, inr (same, low))
            | inr past ↦ absurd (none b past (subst (λ (i : ℕ). IsDemand r false (Apart i b)) same demand))
          ]
    ]
    from (Required name) (demand, before) = absurd before

pub all-pairs : (r : PackageList) (n : ℕ) (limits set : ClauseList) → length r.packages ≤ n → IsFront r (Apart n 0) limits set → IsPlainSet r limits set
all-pairs r n limits set past of = set-shift (present_demands r) (Before r (Apart n 0)) (IsDemand r false) limits.clause_limit limits.literal_limit
    set (λ d before. before.0)
    from of
  where
    from : (d : Demand) → IsDemand r false d → Before r (Apart n 0) d
    from (Item a b) demand = (demand, tt)
    from (Apart a b) demand = (demand, inl (omega (arith, past, within-from _ r.packages a demand.1)))
    from (Required name) demand = absurd (not-required r name demand)

-- ---- mode essential has the causes of mode plain

relation-demand : (r : PackageList) (essential : Bool) (d : Demand) → IsDemand r false d → IsDemand r essential d
relation-demand r essential (Item a b) demand = demand
relation-demand r essential (Apart a b) demand = demand
relation-demand r essential (Required name) demand = absurd (not-required r name demand)

before-relation : (r : PackageList) (essential : Bool) (d e : Demand) → IsDemand r false d → IsDemand r essential e → IsBefore e d → IsDemand r false e
before-relation r essential d (Item a b) is demand before = demand
before-relation r essential d (Apart a b) is demand before = demand
before-relation r essential (Item n k) (Required name) is demand before = absurd before
before-relation r essential (Apart n k) (Required name) is demand before = absurd before
before-relation r essential (Required other) (Required name) is demand before = absurd (not-required r other is)

stopped-too : (r : PackageList) (essential : Bool) (c l : ℕ) (Passes : List (List Literal) → List Literal → Type 0) → made.IsStopped (present_demands
    r) (IsDemand r false) c l Passes
    → made.IsStopped (present_demands r) (IsDemand r essential) c l Passes
stopped-too r essential c l Passes stop = record {
  demand = stop.demand;
  is_demand = relation-demand r essential stop.demand stop.is_demand;
  clause = stop.clause;
  is_clause = stop.is_clause;
  front = stop.front;
  before = clauses-shift (present_demands r) (λ e. IsDemand r false e × IsBefore e stop.demand) (λ e. IsDemand r essential e × IsBefore e
      stop.demand) stop.front
      (λ e before. (relation-demand r essential e before.0, before.1))
      (λ e before. (before-relation r essential stop.demand e stop.is_demand before.0 before.1, before.1)) stop.before;
  clauses_kept = stop.clauses_kept;
  literals_kept = stop.literals_kept;
  passes = stop.passes;
}

pub cause-too : (r : PackageList) (essential : Bool) (c l : ℕ) (error : PushError) → IsCause r false c l error → IsCause r essential c l error
cause-too r essential c l TooManyClauses cause = stopped-too r essential c l _ cause
cause-too r essential c l TooManyLiterals cause = stopped-too r essential c l _ cause
cause-too r essential c l NoMemory cause = tt

-- ---- the cause of a later call's refusal, whose set has the same limits

pub cause-later : (r : PackageList) (essential : Bool) (P : Demand → Type 0) (limits set : ClauseList) (error : PushError)
    → IsSetOf r P limits.clause_limit limits.literal_limit set → IsCauseAt r essential set error → IsCauseAt r essential limits error
cause-later r essential P limits set error =
    cause-chain (present_demands r) P (IsDemand r essential) limits.clause_limit limits.literal_limit set error
