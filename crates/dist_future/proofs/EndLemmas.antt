-- The clauses that say what a future is, by their places in the list of all.
use Rattle.std.proofs.Common.{◌≡◌, ℕ, ◌+◌, ◌-◌, ◌<◌, ◌≤◌, Bool, List, ap, arith, drop, get_or, inl, inr, length, length-drop, subst, sym, take, ◌∙◌}
use Rattle.std.proofs.Common.{Some, refl, slice_get}
use Rattle.std.proofs.lemmas.Bool.{cases_lt}
use Rattle.std.proofs.lemmas.List.{get_or-drop, get_or-map, get_or-take, length-map, length-take-le}
use Rattle.std.proofs.lemmas.Option.{get_or_from_slice_get, slice_get_within}
use Rattle.std.proofs.lemmas.List.Elements.{All-contains}
use Rattle.dist_base.specs.ListLaws.{ElementAt, any-contained, contains-at, element-at, found-at}
use Rattle.dist_clause.specs.Formula.{Literal, IsModel, MakesTrue, value_of}
use Rattle.dist_space.specs.Space.{SpaceView}
use Rattle.dist_space_clauses.specs.EndLaws.{IsEarly, IsSplitAt, end-splits}
use Rattle.dist_space_clauses.specs.Ends.{AreEndsOf}
use Rattle.dist_space_clauses.specs.SpaceClauses.{Demand, AreSpaceClauses, IsClauseFor, IsDemand, group_of}
use Rattle.dist_space_clauses.specs.declared.ends.FutureEnds.{FutureEnds}
use Rattle.dist_future.specs.FutureClauses.{AreTrueAround, IsOfFuture, MeetsFuture}
use Rattle.dist_future.proofs.DemandLemmas.{future-from, future-true}

module _ (s : SpaceView) (values : List Bool) (clauses : List (List Literal)) (ends : FutureEnds) (are : AreSpaceClauses s clauses)
    (of : AreEndsOf s clauses ends) where
  abbrev Row : Type 0
  Row = Demand × List Literal

  abbrev Makes : List Literal → Type 0
  Makes clause = MakesTrue (value_of values) clause

  early : IsSplitAt (IsEarly 3) are.rows ends.early
  early = end-splits s 3 clauses are ends.early of.early

  today : IsSplitAt (IsEarly 5) are.rows ends.today
  today = end-splits s 5 clauses are ends.today of.today

  after : IsSplitAt (IsEarly 6) are.rows ends.after
  after = end-splits s 6 clauses are ends.after of.after

  as-many : length clauses ≡ length are.rows
  as-many = ap length are.are ∙ length-map are.rows (λ (a : Row). a.1)

  -- the clause at a row's place
  clause-at : (k : ℕ) (row : Row) (d : List Literal) → slice_get are.rows k ≡ Some row → get_or clauses k d ≡ row.1
  clause-at k row d is =
      ap (λ (xs : List (List Literal)). get_or xs k d) are.are
      ∙ get_or-map (λ (a : Row). a.1) are.rows k row d (slice_get_within are.rows k row is)
      ∙ ap (λ (a : Row). a.1) (get_or_from_slice_get are.rows k row row is)

  -- ---- what meets the demands makes both parts true

  true-at : MeetsFuture s values → (k : ℕ) (row : Row) → slice_get are.rows k ≡ Some row → IsOfFuture row.0 → (d : List Literal) → Makes (get_or clauses k d)
  true-at meets k row is future d =
      let there = contains-at are.rows k row is in
      let demand : IsDemand s row.0 = (are.exact row.0).0 (any-contained (λ (a : Row). a.0 ≡ row.0) are.rows row there refl) in
      let clause : IsClauseFor s row.0 row.1 = All-contains (λ (a : Row). IsClauseFor s a.0 a.1) are.rows row are.each there in
      subst Makes (sym (clause-at k row d is)) (meets row.0 row.1 demand future clause)

  row-at : (k : ℕ) → k < length clauses → ElementAt are.rows k
  row-at k short = element-at are.rows k (omega (arith, short, as-many))

  pub future-around : MeetsFuture s values → AreTrueAround (value_of values) ends clauses
  future-around meets = (front, back)
    where
      front : IsModel (value_of values) (take ends.early clauses)
      front k d short =
          let before : k < ends.early = omega (arith, short, length-take-le ends.early clauses of.early.within) in
          let row = row-at k (omega (arith, before, of.early.within)) in
          subst Makes (sym (get_or-take ends.early clauses k d before))
          (true-at meets k row.element row.is (inl (early.has k row.element row.is before)) d)

      back : IsModel (value_of values) (drop ends.today (take ends.after clauses))
      back k d short =
          let all = length-drop ends.today (take ends.after clauses) in
          let before : ends.today + k < ends.after = omega (arith, short, all, length-take-le ends.after clauses of.after.within) in
          let row = row-at (ends.today + k) (omega (arith, before, of.after.within)) in
          let upto : group_of row.element.0 ≤ 6 = after.has (ends.today + k) row.element row.is before in
          let sixth : group_of row.element.0 ≡ 6 = elim (cases_lt 5 (group_of row.element.0)) [
            | inl more ↦ omega (arith, more, upto)
            | inr less ↦ let h = today.before (ends.today + k) row.element row.is less in absurd (omega (arith, h))
          ] in
          subst Makes (sym (get_or-drop ends.today (take ends.after clauses) k d ∙ get_or-take ends.after clauses (ends.today + k) d before))
          (true-at meets (ends.today + k) row.element row.is (inr sixth) d)

  -- ---- and the other way

  pub around-future : AreTrueAround (value_of values) ends clauses → MeetsFuture s values
  around-future around = future-true s values (future-from s values made)
    where
      -- a row's clause is true
      row-true : (k : ℕ) (row : Row) → slice_get are.rows k ≡ Some row → IsOfFuture row.0 → Makes row.1
      row-true k row is (inl third) =
          let before : k < ends.early = early.before k row is third in
          let short : k < length (take ends.early clauses) = omega (arith, before, length-take-le ends.early clauses of.early.within) in
          subst Makes (get_or-take ends.early clauses k row.1 before ∙ clause-at k row row.1 is) (around.0 k row.1 short)
      row-true k row is (inr sixth) =
          let before : k < ends.after = after.before k row is (omega (arith, sixth)) in
          let past : ends.today ≤ k = elim (cases_lt k ends.today) [
            | inl less ↦ let h = today.has k row is less in absurd (omega (arith, h, sixth))
            | inr more ↦ more
          ] in
          let place : ends.today + (k - ends.today) ≡ k = omega (arith, past) in
          let within = length-take-le ends.after clauses of.after.within in
          let short : k - ends.today < length (drop ends.today (take ends.after clauses)) =
          omega (arith, before, past, within, length-drop ends.today (take ends.after clauses)) in
          let same : get_or (drop ends.today (take ends.after clauses)) (k - ends.today) row.1 ≡ row.1 =
          get_or-drop ends.today (take ends.after clauses) (k - ends.today) row.1 ∙ ap (λ (i : ℕ). get_or (take ends.after clauses) i row.1) place
          ∙ get_or-take ends.after clauses k row.1 before ∙ clause-at k row row.1 is in
          subst Makes same (around.1 (k - ends.today) row.1 short)

      made : (d : Demand) (clause : List Literal) → IsDemand s d → IsOfFuture d → IsClauseFor s d clause
          → ((other : List Literal) → IsClauseFor s d other → other ≡ clause) → Makes clause
      made d clause here future is only =
          let found = found-at (λ (a : Row). a.0 ≡ d) are.rows ((are.exact d).1 here) in
          let there = contains-at are.rows found.place found.element found.is in
          let each = All-contains (λ (a : Row). IsClauseFor s a.0 a.1) are.rows found.element are.each there in
          let For : Demand → Type 0 = λ e. IsClauseFor s e found.element.1 in
          subst Makes (only found.element.1 (subst For found.holds each))
          (row-true found.place found.element found.is (subst IsOfFuture (sym found.holds) future))
