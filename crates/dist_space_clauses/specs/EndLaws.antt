-- Where a group ends in the list of clauses. No public clause cites these laws; proofs do, those of the crate above
-- too.
use Rattle.std.proofs.Common.{◌≡◌, ◌⊎◌, ℕ, zero, suc, ◌<◌, ◌≤◌, List, [], ◌∷◌, Some, Less, nat_cmp, length, get_or}
use Rattle.std.proofs.Common.{map, take, sym, ap, subst, ◌∙◌, arith, inl, inr, slice_get}
use Rattle.std.specs.Prelude.{AllPairs, Any}
use Rattle.std.specs.Cmp.Lexicographic.{slice_cmp}
use Rattle.std.proofs.lemmas.Bool.{cases_lt}
use Rattle.std.proofs.lemmas.Cmp.{nat_list_cmp_total}
use Rattle.std.proofs.lemmas.List.{get_or-take, length-map, length-take-le, take-map}
use Rattle.std.proofs.lemmas.List.Elements.{All-take}
use Rattle.dist_base.specs.ListLaws.{any-at, contains-at, found-at, pairs-head, pairs-tail}
use Rattle.dist_base.specs.RowLaws.{rows-same}
use Rattle.dist_clause.specs.Formula.{Literal}
use Rattle.dist_space.specs.KeyLaws.{cmp-less}
use Rattle.dist_space.specs.Space.{SpaceView}
use Rattle.dist_space_clauses.specs.Ends.{IsEndOf}
use Rattle.dist_space_clauses.specs.SpaceClauses.{Demand, AreClausesOf, AreSpaceClauses, IsBefore, IsClauseFor}
use Rattle.dist_space_clauses.specs.SpaceClauses.{IsDemand, group_of, rank_of}

-- ---- the order of demands

pub ranks-asymmetric : (a b : List ℕ) → slice_cmp nat_cmp a b ≡ Less → ¬ (slice_cmp nat_cmp b a ≡ Less)
ranks-asymmetric a b less more = let turned = nat_list_cmp_total.antisymm a b in cc

-- a demand is in no later group than one behind it
group-before : (s : SpaceView) (d e : Demand) (group : ℕ) → IsBefore s d e → group_of e ≤ group → group_of d ≤ group
group-before s d e group before up = elim (cmp-less (rank_of s d) (rank_of s e) before) [
  | inl less ↦ omega (arith, less, up)
  | inr same ↦ omega (arith, same.0, up)
]

-- ---- lists that split

-- the elements before a place are those with a property
pub record IsSplitAt {X : Type 0} (P : X → Type 0) (xs : List X) (count : ℕ) : Type 0 where
  pub within : count ≤ length xs
  pub has : (k : ℕ) (x : X) → slice_get xs k ≡ Some x → k < count → P x
  pub before : (k : ℕ) (x : X) → slice_get xs k ≡ Some x → P x → k < count

record SomeSplit {X : Type 0} (P : X → Type 0) (xs : List X) : Type 0 where
  count : ℕ
  splits : IsSplitAt P xs count

module _ {X : Type 0} (P : X → Type 0) (x : X) (xs : List X) where
  split-more : P x → (count : ℕ) → IsSplitAt P xs count → IsSplitAt P (x ∷ xs) (suc count)
  split-more holds count of = record { within = omega (arith, of.within); has = has; before = before }
    where
      has : (k : ℕ) (y : X) → slice_get (x ∷ xs) k ≡ Some y → k < suc count → P y
      has zero y is short = let e : x ≡ y = cc in subst P e holds
      has (suc k) y is short = of.has k y is (omega (arith, short))

      before : (k : ℕ) (y : X) → slice_get (x ∷ xs) k ≡ Some y → P y → k < suc count
      before zero y is here = omega arith
      before (suc k) y is here = omega (arith, of.before k y is here)

  split-none : ¬ P x → ((k : ℕ) (y : X) → slice_get xs k ≡ Some y → P y → P x) → IsSplitAt P (x ∷ xs) 0
  split-none fails back = record {
    within = omega arith;
    has = λ k y is short. absurd (omega (arith, short));
    before = before;
  }
    where
      before : (k : ℕ) (y : X) → slice_get (x ∷ xs) k ≡ Some y → P y → k < 0
      before zero y is here = let e : x ≡ y = cc in absurd (fails (subst P (sym e) here))
      before (suc k) y is here = absurd (fails (back k y is here))

-- where each pair is related so that what holds of the second holds of the first
some-split : {X : Type 0} (P : X → Type 0) (R : X → X → Type 0) → ((x : X) → P x ⊎ (¬ P x))
    → ((x y : X) → R x y → P y → P x) → (xs : List X) → AllPairs R xs → SomeSplit P xs
some-split P R decided back [] pairs = record {
  count = 0;
  splits = record {
    within = omega arith;
    has = λ k x is short. absurd (omega (arith, short));
    before = λ k x is holds. cc;
  };
}
some-split P R decided back (x ∷ xs) pairs = elim (decided x) [
  | inl holds ↦
      let rest = some-split P R decided back xs (pairs-tail R x xs pairs) in
      record { count = suc rest.count; splits = split-more P x xs holds rest.count rest.splits }
  | inr fails ↦ record {
    count = 0;
    splits = split-none P x xs fails
        (λ k y is here. back x y (pairs-head R x xs pairs y (contains-at xs k y is)) here);
  }
]

-- ---- the front of a list

take-at : {X : Type 0} (xs : List X) (count k : ℕ) (x : X) → slice_get (take count xs) k ≡ Some x
    → (k < count) × (slice_get xs k ≡ Some x)
take-at xs zero k x is = cc
take-at [] (suc count) k x is = cc
take-at (y ∷ ys) (suc count) zero x is = (omega arith, is)
take-at (y ∷ ys) (suc count) (suc k) x is = let rest = take-at ys count k x is in (omega (arith, rest.0), rest.1)

pub at-take : {X : Type 0} (xs : List X) (count k : ℕ) (x : X) → k < count → slice_get xs k ≡ Some x
    → slice_get (take count xs) k ≡ Some x
at-take xs zero k x short is = absurd (omega (arith, short))
at-take [] (suc count) k x short is = cc
at-take (y ∷ ys) (suc count) zero x short is = is
at-take (y ∷ ys) (suc count) (suc k) x short is = at-take ys count k x (omega (arith, short)) is

pairs-take : {X : Type 0} (R : X → X → Type 0) (xs : List X) (count : ℕ) → count ≤ length xs → AllPairs R xs
    → AllPairs R (take count xs)
pairs-take {X} R xs count within pairs i j d less short =
    let all = length-take-le count xs within in
    let behind : j < count = omega (arith, short, all) in
    let first = get_or-take count xs i d (omega (arith, less, behind)) in
    let second = get_or-take count xs j d behind in
    let Left : X → Type 0 = λ x. R x (get_or (take count xs) j d) in
    let Right : X → Type 0 = λ y. R (get_or xs i d) y in
    subst Left (sym first) (subst Right (sym second) (pairs i j d less (omega (arith, behind, within))))

-- ---- the clauses of the groups up to one

abbrev Row : Type 0
Row = Demand × List Literal

abbrev Upto : SpaceView → ℕ → Demand → Type 0
Upto s group d = IsDemand s d × (group_of d ≤ group)

-- a demand with its clause, in a group up to one
abbrev pub IsEarly : ℕ → Demand × List Literal → Type 0
IsEarly group row = group_of row.0 ≤ group

-- lists of clauses of the same demands are as long
same-length : (s : SpaceView) (P : Demand → Type 0) (clauses others : List (List Literal)) → AreClausesOf s P clauses
    → AreClausesOf s P others → length clauses ≡ length others
same-length s P clauses others are also =
    ap length are.are ∙ length-map are.rows (λ (a : Row). a.1)
    ∙ sym (length-map are.rows (λ (a : Row). a.0)) ∙ ap length demands ∙ length-map also.rows (λ (a : Row). a.0)
    ∙ sym (length-map also.rows (λ (a : Row). a.1)) ∙ sym (ap length also.are)
  where
    demands : map (λ (a : Row). a.0) are.rows ≡ map (λ (a : Row). a.0) also.rows
    demands = rows-same (λ (a : Row). a.0) (IsBefore s) (λ (a : Row). Unit {0}) (λ (a : Row). a.0)
        (λ d e. ranks-asymmetric (rank_of s d) (rank_of s e)) (λ x y same p q. same) also.rows are.rows
        also.rising are.rising (λ k d short. tt) (λ k d short. tt)
        (λ d has. (are.exact d).1 ((also.exact d).0 has)) (λ d has. (also.exact d).1 ((are.exact d).0 has))

module _ (s : SpaceView) (group : ℕ) (clauses : List (List Literal)) (are : AreSpaceClauses s clauses) where
  as-many : length clauses ≡ length are.rows
  as-many = ap length are.are ∙ length-map are.rows (λ (a : Row). a.1)

  group-split : SomeSplit (IsEarly group) are.rows
  group-split = some-split (IsEarly group) (λ (a b : Row). IsBefore s a.0 b.0) decided
      (λ a b before up. group-before s a.0 b.0 group before up) are.rows are.rising
    where
      decided : (row : Row) → IsEarly group row ⊎ (¬ IsEarly group row)
      decided row = elim (cases_lt group (group_of row.0)) [
        | inl more ↦ inr (λ up. omega (arith, more, up))
        | inr up ↦ inl up
      ]

  -- the clauses before the place where they split
  front-of : (count : ℕ) → IsSplitAt (IsEarly group) are.rows count → AreClausesOf s (Upto s group) (take count clauses)
  front-of count splits = record {
    rows = take count are.rows;
    rising = pairs-take (λ (a b : Row). IsBefore s a.0 b.0) are.rows count splits.within are.rising;
    exact = λ d. (to d, back d);
    each = All-take (λ (a : Row). IsClauseFor s a.0 a.1) count are.rows are.each;
    are = ap (λ (xs : List (List Literal)). take count xs) are.are ∙ take-map (λ (a : Row). a.1) count are.rows;
  }
    where
      to : (d : Demand) → Any (λ (a : Row). a.0 ≡ d) (take count are.rows) → Upto s group d
      to d any =
          let found = found-at (λ (a : Row). a.0 ≡ d) (take count are.rows) any in
          let at = take-at are.rows count found.place found.element found.is in
          let Low : Demand → Type 0 = λ e. group_of e ≤ group in
          let there = any-at (λ (a : Row). a.0 ≡ d) are.rows found.place found.element at.1 found.holds in
          ((are.exact d).0 there, subst Low found.holds (splits.has found.place found.element at.1 at.0))

      back : (d : Demand) → Upto s group d → Any (λ (a : Row). a.0 ≡ d) (take count are.rows)
      back d here =
          let found = found-at (λ (a : Row). a.0 ≡ d) are.rows ((are.exact d).1 here.0) in
          let Low : Demand → Type 0 = λ e. group_of e ≤ group in
          let short = splits.before found.place found.element found.is (subst Low (sym found.holds) here.1) in
          any-at (λ (a : Row). a.0 ≡ d) (take count are.rows) found.place found.element
          (at-take are.rows count found.place found.element short found.is) found.holds

  -- they split at the number of the clauses of the groups up to one
  split-at : (front : List (List Literal)) → AreClausesOf s (Upto s group) front
      → IsSplitAt (IsEarly group) are.rows (length front)
  split-at front those =
      let within : group-split.count ≤ length clauses = omega (arith, as-many, group-split.splits.within) in
      let count : group-split.count ≡ length front = sym (length-take-le group-split.count clauses within)
      ∙ same-length s (Upto s group) (take group-split.count clauses) front
      (front-of group-split.count group-split.splits) those in
      subst (IsSplitAt (IsEarly group) are.rows) count group-split.splits

  -- that number is where the group ends
  pub end-of : (front : List (List Literal)) → AreClausesOf s (λ d. IsDemand s d × (group_of d ≤ group)) front
      → IsEndOf s group clauses (length front)
  end-of front those =
      let splits = split-at front those in
      record { within = omega (arith, as-many, splits.within); are = front-of (length front) splits }

  -- and before the end of a group stand the clauses of the groups up to it, and no other
  pub end-splits : (count : ℕ) → IsEndOf s group clauses count → IsSplitAt (IsEarly group) are.rows count
  end-splits count end = subst (IsSplitAt (IsEarly group) are.rows) (length-take-le count clauses end.within)
      (split-at (take count clauses) end.are)
