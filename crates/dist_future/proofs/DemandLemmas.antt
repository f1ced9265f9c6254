-- What the demands of a space ask of the meanings that hold, and that the models of its clauses are what meets them.
use Rattle.std.proofs.Common.{◌≡◌, ◌≢◌, ◌⊎◌, ℕ, suc, ◌<◌, ◌≤◌, Bool, true, false, List, [], ◌∷◌, Some, length, map, refl, sym, ap, subst, ◌∙◌, inl, inr, arith}
use Rattle.std.proofs.Common.{slice_get}
use Rattle.std.specs.Prelude.{All, Any, Contains, IsSomeAnd, slice_index}
use Rattle.std.specs.Option.{option_map}
use Rattle.std.proofs.lemmas.Bool.{false≢true}
use Rattle.std.proofs.lemmas.List.Elements.{All-contains, All-map}
use Rattle.std.proofs.lemmas.Option.{slice_get-map, slice_get_within}
use Rattle.dist_base.specs.ListLaws.{all-contained, any-at, any-cases, any-head, any-later, any-more, at-has, contains-at, here-at, place-of, within-from}
use Rattle.dist_clause.specs.Formula.{Literal, IsTrueLiteral, MakesTrue, IsModel, value_of}
use Rattle.dist_relation.specs.declared.atom.Atom.{Atom}
use Rattle.dist_repo.specs.DecidedLaws.{any-decided, matches-decided}
use Rattle.dist_repo.specs.Healthy.{required_names}
use Rattle.dist_repo.specs.Match.{IsUsable, Matches}
use Rattle.dist_repo.specs.declared.package.Package.{Package}
use Rattle.dist_space.specs.Space.{SpaceView, AreMeaningsOf, IsMatched, IsMeaning, IsMetBy, cluster_classes, fresh_classes, variable_of}
use Rattle.dist_space_clauses.specs.SpaceClauses.{Demand, OneClass, Gone, Moved, Carried, OneFresh, Item, Apart, StaysNow, AbsentNow, Required, AreSpaceClauses}
use Rattle.dist_space_clauses.specs.SpaceClauses.{Excludes, IsBearer, IsClauseFor, IsDemand, no, yes}
use Rattle.dist_future.specs.FutureClauses.{IsOfFuture}
use Rattle.dist_space.specs.declared.meaning.Meaning.{Meaning}
use Rattle.dist_space.specs.declared.meaning.Meaning.TheVariants.{Now, Present, At, New, Kept, Fresh}
use Rattle.dist_space_clauses.specs.ItemLaws.{item-at, item-has}

-- some meaning that holds meets the item, or has the name
pub record IsMetIn (s : SpaceView) (T : Meaning → Type 0) (P : Meaning → Type 0) : Type 0 where
  pub meaning : Meaning
  pub is_meaning : IsMeaning s meaning
  pub holds : T meaning
  pub has : P meaning

-- the demands of futures: those of the groups 1, 2, 3 and 6
pub record AreFutureMet (s : SpaceView) (T : Meaning → Type 0) : Type 0 where
  pub one_class : (c k l : ℕ) → k < l → l < length (cluster_classes s c) → T (At c k) → T (At c l) → ⊥
  pub gone : (r k : ℕ) → IsMeaning s (New r k) → T (Present r) → T (At (slice_index s.cluster_of r) k) → ⊥
  pub moved : (r k : ℕ) → IsMeaning s (New r k) → T (New r k) → T (At (slice_index s.cluster_of r) k)
  pub carried : (r k j : ℕ) → IsMeaning s (Kept r k j) → T (Kept r k j) → T (New r k)
  pub one_fresh : (x k l : ℕ) → k < l → l < length (fresh_classes s x) → T (Fresh x k) → T (Fresh x l) → ⊥
  pub stays : (c k : ℕ) → IsMeaning s (At c k) → T Now → T (At c k) → ⊥
  pub absent : (x k : ℕ) → IsMeaning s (Fresh x k) → T Now → T (Fresh x k) → ⊥

-- all demands
pub record AreMet (s : SpaceView) (T : Meaning → Type 0) : Type 0 where
  pub future : AreFutureMet s T
  pub met : (r place : ℕ) (p : Package) (item : List Atom) → slice_get s.repository.packages r ≡ Some p → slice_get p.depends place ≡ Some item → T (Present r)
      → IsMetIn s T (IsMetBy s item)
  pub apart : (r : ℕ) (p : Package) (m : Meaning) → slice_get s.repository.packages r ≡ Some p → IsMeaning s m → Excludes s r p m → T (Present r) → T m → ⊥
  pub required : (name : List ℕ) → Contains (required_names s.essential s.repository.packages) name → IsMetIn s T (IsBearer s name)

-- ---- literals

module _ (s : SpaceView) (values : List Bool) where
  -- a meaning's value
  abbrev pub IsTrueMeaning : Meaning → Type 0
  IsTrueMeaning m = value_of values (variable_of s m) ≡ true

  abbrev pub Makes : List Literal → Type 0
  Makes clause = MakesTrue (value_of values) clause

  never-both : (a b : Meaning) → Makes (no s a ∷ no s b ∷ []) → IsTrueMeaning a → IsTrueMeaning b → ⊥
  never-both a b holds first second = elim (any-cases (IsTrueLiteral (value_of values)) (no s a) (no s b ∷ []) holds) [
    | inl here ↦ false≢true (sym here ∙ first)
    | inr later ↦ elim (any-cases (IsTrueLiteral (value_of values)) (no s b) [] later) [
      | inl here ↦ false≢true (sym here ∙ second)
      | inr none ↦ omega (arith, none.2)
    ]
  ]

  with-it : (a b : Meaning) → Makes (no s a ∷ yes s b ∷ []) → IsTrueMeaning a → IsTrueMeaning b
  with-it a b holds first = elim (any-cases (IsTrueLiteral (value_of values)) (no s a) (yes s b ∷ []) holds) [
    | inl here ↦ absurd (false≢true (sym here ∙ first))
    | inr later ↦ elim (any-cases (IsTrueLiteral (value_of values)) (yes s b) [] later) [
      | inl here ↦ here
      | inr none ↦ absurd (omega (arith, none.2))
    ]
  ]

  pub record SomeTrue (meanings : List Meaning) : Type 0 where
    pub meaning : Meaning
    pub there : Contains meanings meaning
    pub holds : IsTrueMeaning meaning

  some-true : (meanings : List Meaning) → Makes (map (yes s) meanings) → SomeTrue meanings
  some-true [] any = absurd (omega (arith, any.2))
  some-true (m ∷ meanings) any = elim (any-cases (IsTrueLiteral (value_of values)) (yes s m) (map (yes s) meanings) any) [
    | inl here ↦ record { meaning = m; there = (0, omega arith, refl); holds = here }
    | inr later ↦ let rest = some-true meanings later in record {
      meaning = rest.meaning;
      there = (suc rest.there.0, omega (arith, rest.there.1), rest.there.2);
      holds = rest.holds;
    }
  ]

  true-some : (meanings : List Meaning) (m : Meaning) → Contains meanings m → IsTrueMeaning m → Makes (map (yes s) meanings)
  true-some meanings m there holds =
      let at = place-of meanings m there in
      any-at (IsTrueLiteral (value_of values)) (map (yes s) meanings) at.place (yes s m)
      (slice_get-map (yes s) meanings at.place ∙ ap (option_map (yes s)) at.is) holds

  -- a meaning holds or doesn't
  value-cases : (m : Meaning) → IsTrueMeaning m ⊎ (value_of values (variable_of s m) ≡ false)
  value-cases m = by (value_of values (variable_of s m)) refl
    where
      by : (b : Bool) → value_of values (variable_of s m) ≡ b → IsTrueMeaning m ⊎ (value_of values (variable_of s m) ≡ false)
      by true is = inl is
      by false is = inr is

  not-both : (a b : Meaning) → (IsTrueMeaning a → IsTrueMeaning b → ⊥) → Makes (no s a ∷ no s b ∷ [])
  not-both a b never = elim (value-cases a) [
    | inr none ↦ any-head (IsTrueLiteral (value_of values)) (no s a) (no s b ∷ []) none
    | inl first ↦ elim (value-cases b) [
      | inr none ↦ any-later (IsTrueLiteral (value_of values)) (no s a) (no s b ∷ []) (any-head (IsTrueLiteral (value_of values)) (no s b) [] none)
      | inl second ↦ absurd (never first second)
    ]
  ]

  when-it : (a : Meaning) (rest : List Literal) → (IsTrueMeaning a → Makes rest) → Makes (no s a ∷ rest)
  when-it a rest then = elim (value-cases a) [
    | inr none ↦ any-head (IsTrueLiteral (value_of values)) (no s a) rest none
    | inl first ↦ any-later (IsTrueLiteral (value_of values)) (no s a) rest (then first)
  ]

  one-true : (m : Meaning) → IsTrueMeaning m → Makes (yes s m ∷ [])
  one-true m holds = any-head (IsTrueLiteral (value_of values)) (yes s m) [] holds

  -- ---- the demands of futures, each of which has one clause

  abbrev IsOnlyFor : Demand → List Literal → Type 0
  IsOnlyFor d clause = (other : List Literal) → IsClauseFor s d other → other ≡ clause

  pub future-from : ((d : Demand) (clause : List Literal) → IsDemand s d → IsOfFuture d → IsClauseFor s d clause → IsOnlyFor d clause → Makes clause)
      → AreFutureMet s IsTrueMeaning
  future-from makes = record {
    one_class = λ c k l less short. never-both (At c k) (At c l) (makes (OneClass c k l) _ (less, short) (inl (omega arith)) refl (λ other is. is));
    gone = λ r k is. never-both (Present r) (At (slice_index s.cluster_of r) k) (makes (Gone r k) _ is (inl (omega arith)) refl (λ other is. is));
    moved = λ r k is. with-it (New r k) (At (slice_index s.cluster_of r) k) (makes (Moved r k) _ is (inl (omega arith)) refl (λ other is. is));
    carried = λ r k j is. with-it (Kept r k j) (New r k) (makes (Carried r k j) _ is (inl (omega arith)) refl (λ other is. is));
    one_fresh = λ x k l less short. never-both (Fresh x k) (Fresh x l) (makes (OneFresh x k l) _ (less, short) (inl (omega arith)) refl (λ other is. is));
    stays = λ c k is. never-both Now (At c k) (makes (StaysNow c k) _ is (inr refl) refl (λ other is. is));
    absent = λ x k is. never-both Now (Fresh x k) (makes (AbsentNow x k) _ is (inr refl) refl (λ other is. is));
  }

  later-group : (n : ℕ) → 3 < n → n ≢ 6 → ¬ ((n ≤ 3) ⊎ (n ≡ 6))
  later-group n more other of = elim of [
    | inl first ↦ omega (arith, more, first)
    | inr sixth ↦ other sixth
  ]

  pub future-true : AreFutureMet s IsTrueMeaning → (d : Demand) (clause : List Literal) → IsDemand s d → IsOfFuture d → IsClauseFor s d clause → Makes clause
  future-true met (OneClass c k l) clause here of is = subst Makes (sym is) (not-both (At c k) (At c l) (met.one_class c k l here.0 here.1))
  future-true met (Gone r k) clause here of is = subst Makes (sym is) (not-both (Present r) (At (slice_index s.cluster_of r) k) (met.gone r k here))
  future-true met (Moved r k) clause here of is =
      subst Makes (sym is) (when-it (New r k) (yes s (At (slice_index s.cluster_of r) k) ∷ [])
      (λ t. one-true (At (slice_index s.cluster_of r) k) (met.moved r k here t)))
  future-true met (Carried r k j) clause here of is =
      subst Makes (sym is) (when-it (Kept r k j) (yes s (New r k) ∷ []) (λ t. one-true (New r k) (met.carried r k j here t)))
  future-true met (OneFresh x k l) clause here of is = subst Makes (sym is) (not-both (Fresh x k) (Fresh x l) (met.one_fresh x k l here.0 here.1))
  future-true met (StaysNow c k) clause here of is = subst Makes (sym is) (not-both Now (At c k) (met.stays c k here))
  future-true met (AbsentNow x k) clause here of is = subst Makes (sym is) (not-both Now (Fresh x k) (met.absent x k here))
  future-true met (Item r place) clause here of is = absurd (later-group 4 (omega arith) (λ same. omega (arith, same)) of)
  future-true met (Apart r m) clause here of is = absurd (later-group 5 (omega arith) (λ same. omega (arith, same)) of)
  future-true met (Required name) clause here of is = absurd (later-group 7 (omega arith) (λ same. omega (arith, same)) of)

  -- ---- a model meets the demands

  module _ (clauses : List (List Literal)) (are : AreSpaceClauses s clauses) where
    record TrueClause (d : Demand) : Type 0 where
      clause : List Literal
      is_clause : IsClauseFor s d clause
      holds : Makes clause

    abbrev Row : Type 0
    Row = Demand × List Literal

    true-clause : IsModel (value_of values) clauses → (d : Demand) → IsDemand s d → TrueClause d
    true-clause model d here =
        let any : Any (λ (a : Row). a.0 ≡ d) are.rows = (are.exact d).1 here in
        let row : Row = any.1 in
        let there : Contains are.rows row = (any.0, any.2, any.3) in
        let is = All-contains (λ (a : Row). IsClauseFor s a.0 a.1) are.rows row are.each there in
        let For : Demand → Type 0 = λ e. IsClauseFor s e row.1 in
        let within : Contains clauses row.1 =
        subst (λ (xs : List (List Literal)). Contains xs row.1) (sym are.are)
        (contained-map are.rows row there) in
        record { clause = row.1; is_clause = subst For any.4 is; holds = All-contains Makes clauses row.1 model within }
      where
        contained-map : (rows : List Row) (a : Row) → Contains rows a → Contains (map (λ (b : Row). b.1) rows) a.1
        contained-map rows a there =
            let at = place-of rows a there in
            contains-at (map (λ (b : Row). b.1) rows) at.place a.1 (slice_get-map (λ (b : Row). b.1) rows at.place ∙ ap (option_map (λ (b : Row). b.1)) at.is)

    makes : IsModel (value_of values) clauses → (d : Demand) (clause : List Literal) → IsDemand s d
        → ((other : List Literal) → IsClauseFor s d other → other ≡ clause) → Makes clause
    makes model d clause here only = let t = true-clause model d here in subst Makes (only t.clause t.is_clause) t.holds

    pub met-from-model : IsModel (value_of values) clauses → AreMet s IsTrueMeaning
    met-from-model model = record {
      future = future-from (λ d clause here of is only. makes model d clause here only);
      met = met;
      apart = λ r p m is is_meaning excludes. never-both (Present r) m
          (makes model (Apart r m) _ (is_meaning, at-has (λ q. Excludes s r q m) s.repository.packages r p is excludes) (λ other is. is));
      required = λ name there.
          let t = true-clause model (Required name) there in
          let some = some-true t.is_clause.0 (subst Makes t.is_clause.2 t.holds) in
          let has = (t.is_clause.1.exact some.meaning).0 some.there in
          record { meaning = some.meaning; is_meaning = has.0; holds = some.holds; has = has.1 };
    }
      where
        met : (r place : ℕ) (p : Package) (item : List Atom) → slice_get s.repository.packages r ≡ Some p → slice_get p.depends place ≡ Some item
            → IsTrueMeaning (Present r) → IsMetIn s IsTrueMeaning (IsMetBy s item)
        met r place p item is is_item holds =
            elim (any-decided (λ atom. Matches s.repository.architecture atom p) (λ atom. matches-decided s.repository.architecture atom p) item) [
              | inl itself ↦ record { meaning = Present r; is_meaning = slice_get_within s.repository.packages r p is; holds = holds; has = itself-met itself }
              | inr other ↦
                  let t = true-clause model (Item r place) (item-at s r place (λ q i. ¬ Any (λ atom. Matches s.repository.architecture atom q) i) p item is
                  is_item other) in
                  let matching : List Meaning = t.is_clause.0 in
                  let are_matching = item-has s r place (λ q i. AreMeaningsOf s (IsMetBy s i) matching) p item is is_item t.is_clause.1 in
                  elim (any-cases (IsTrueLiteral (value_of values)) (no s (Present r)) (map (yes s) matching) (subst Makes t.is_clause.2 t.holds)) [
                    | inl none ↦ absurd (false≢true (sym none ∙ holds))
                    | inr later ↦
                        let some = some-true matching later in
                        let has = (are_matching.exact some.meaning).0 some.there in
                        record { meaning = some.meaning; is_meaning = has.0; holds = some.holds; has = has.1 }
                  ]
            ]
          where
            itself-met : Any (λ atom. Matches s.repository.architecture atom p) item → IsMetBy s item (Present r)
            itself-met any =
                any-more (λ atom. Matches s.repository.architecture atom p) (λ atom. IsMatched s atom (Present r))
                (λ atom matches. (matches.usable, at-has (Matches s.repository.architecture atom) s.repository.packages r p is matches)) item any

    -- ---- and what meets the demands is a model

    true-for : AreMet s IsTrueMeaning → (d : Demand) (clause : List Literal) → IsDemand s d → IsClauseFor s d clause → Makes clause
    true-for are_met (OneClass c k l) clause here is = future-true are_met.future (OneClass c k l) clause here (inl (omega arith)) is
    true-for are_met (Gone r k) clause here is = future-true are_met.future (Gone r k) clause here (inl (omega arith)) is
    true-for are_met (Moved r k) clause here is = future-true are_met.future (Moved r k) clause here (inl (omega arith)) is
    true-for are_met (Carried r k j) clause here is = future-true are_met.future (Carried r k j) clause here (inl (omega arith)) is
    true-for are_met (OneFresh x k l) clause here is = future-true are_met.future (OneFresh x k l) clause here (inl (omega arith)) is
    true-for are_met (Item r place) clause here (matching, matches, is) =
        let Unmet : Package → List Atom → Type 0 = λ q i. ¬ Any (λ atom. Matches s.repository.architecture atom q) i in
        let p = here-at (λ q. IsSomeAnd (slice_get q.depends place) (Unmet q)) s.repository.packages r here in
        let item = here-at (Unmet p.element) p.element.depends place p.holds in
        let are_matching = item-has s r place (λ q i. AreMeaningsOf s (IsMetBy s i) matching) p.element item.element p.is item.is matches in
        subst Makes (sym is) (when-it (Present r) (map (yes s) matching) (λ t.
        let some = are_met.met r place p.element item.element p.is item.is t in
        true-some matching some.meaning ((are_matching.exact some.meaning).1 (some.is_meaning, some.has)) some.holds))
    true-for are_met (Apart r m) clause here is =
        let p = here-at (λ q. Excludes s r q m) s.repository.packages r here.1 in
        subst Makes (sym is) (not-both (Present r) m (are_met.apart r p.element m p.is here.0 p.holds))
    true-for are_met (StaysNow c k) clause here is = future-true are_met.future (StaysNow c k) clause here (inr refl) is
    true-for are_met (AbsentNow x k) clause here is = future-true are_met.future (AbsentNow x k) clause here (inr refl) is
    true-for are_met (Required name) clause here (bearers, bear, is) =
        let some = are_met.required name here in
        subst Makes (sym is) (true-some bearers some.meaning ((bear.exact some.meaning).1 (some.is_meaning, some.has)) some.holds)

    pub model-from-met : AreMet s IsTrueMeaning → IsModel (value_of values) clauses
    model-from-met are_met =
        subst (λ (xs : List (List Literal)). All Makes xs) (sym are.are)
        (All-map Makes (λ (a : Row). a.1) are.rows (all-contained (λ (a : Row). Makes a.1) are.rows
        (λ a there. true-for are_met a.0 a.1 ((are.exact a.0).0 (there.0, a, there.1, there.2, refl))
        (All-contains (λ (b : Row). IsClauseFor s b.0 b.1) are.rows a are.each there))))

-- ---- meanings that hold alike

meets-more : (s : SpaceView) (T U P : Meaning → Type 0) → ((m : Meaning) → IsMeaning s m → T m → U m) → IsMetIn s T P → IsMetIn s U P
meets-more s T U P to met = record { meaning = met.meaning; is_meaning = met.is_meaning; holds = to met.meaning met.is_meaning met.holds; has = met.has }

pub met-alike : (s : SpaceView) (T U : Meaning → Type 0) → ((m : Meaning) → IsMeaning s m → T m → U m) → ((m : Meaning) → IsMeaning s m → U m → T m)
    → AreMet s T → AreMet s U
met-alike s T U to back met = record {
  future = record {
    one_class = λ c k l less short first second. met.future.one_class c k l less short (back (At c k) (omega (arith, less, short)) first)
        (back (At c l) short second);
    gone = λ r k is present at. met.future.gone r k is (back (Present r) is.0 present) (back (At (slice_index s.cluster_of r) k) is.1 at);
    moved = λ r k is holds. to (At (slice_index s.cluster_of r) k) is.1 (met.future.moved r k is (back (New r k) is holds));
    carried = λ r k j is holds. to (New r k) (
      within-from (λ p. IsSomeAnd (slice_get p.provides j) (λ entry. IsUsable s.repository.architecture entry.qualifier))
          s.repository.packages r is.0,
      is.1,
    ) (met.future.carried r k j is (back (Kept r k j) is holds));
    one_fresh = λ x k l less short first second. met.future.one_fresh x k l less short (back (Fresh x k) (omega (arith, less, short)) first)
        (back (Fresh x l) short second);
    stays = λ c k is now at. met.future.stays c k is (back Now tt now) (back (At c k) is at);
    absent = λ x k is now holds. met.future.absent x k is (back Now tt now) (back (Fresh x k) is holds);
  };
  met = λ r place p item is is_item holds. meets-more s T U (IsMetBy s item) to
      (met.met r place p item is is_item (back (Present r) (slice_get_within s.repository.packages r p is) holds));
  apart = λ r p m is is_meaning excludes present holds. met.apart r p m is is_meaning excludes
      (back (Present r) (slice_get_within s.repository.packages r p is) present) (back m is_meaning holds);
  required = λ name there. meets-more s T U (IsBearer s name) to (met.required name there);
}
