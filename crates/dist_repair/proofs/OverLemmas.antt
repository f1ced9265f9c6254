-- The clauses of a space are over its variables.
use Rattle.std.proofs.Common.{◌≡◌, ℕ, ◌<◌, ◌≤◌, Bool, true, false, List, [], ◌∷◌, length, map, refl, sym, subst, arith, slice_get}
use Rattle.std.specs.Prelude.{All, IsSomeAnd, slice_index}
use Rattle.std.proofs.lemmas.List.Elements.{All-cons, All-contains, All-map, All-nil}
use Rattle.dist_base.specs.ListLaws.{all-contained, any-contained, here-at, within-from}
use Rattle.dist_clause.specs.Formula.{Literal, literal}
use Rattle.dist_relation.specs.declared.atom.Atom.{Atom}
use Rattle.dist_repo.specs.declared.package.Package.{Package}
use Rattle.dist_space.specs.Space.{AreMeaningsOf, IsMeaning, IsMetBy, IsSpace, SpaceView, variable_of}
use Rattle.dist_space.specs.VariableLaws.{variable-range}
use Rattle.dist_space.specs.declared.meaning.Meaning.{Meaning}
use Rattle.dist_space.specs.declared.meaning.Meaning.TheVariants.{Now, Present, At, New, Kept, Fresh}
use Rattle.dist_space_clauses.specs.SpaceClauses.{AreSpaceClauses, Demand, IsClauseFor, IsDemand, yes}
use Rattle.dist_space_clauses.specs.SpaceClauses.{OneClass, Gone, Moved, Carried, OneFresh, Item, Apart, StaysNow, AbsentNow, Required}

-- the variables of a clause are those from 1 to n
abbrev pub IsOver : ℕ → List Literal → Type 0
IsOver n clause = All (λ l. (1 ≤ l.variable) × (l.variable ≤ n)) clause

module _ (s : SpaceView) (space : IsSpace s) where
  abbrev Over : List Literal → Type 0
  Over = IsOver (length s.meanings)

  abbrev InRange : Literal → Type 0
  InRange l = (1 ≤ l.variable) × (l.variable ≤ length s.meanings)

  two-over : (m n : Meaning) (a b : Bool) → IsMeaning s m → IsMeaning s n
      → Over (literal (variable_of s m) a ∷ literal (variable_of s n) b ∷ [])
  two-over m n a b is_m is_n = All-cons InRange (literal (variable_of s m) a) (literal (variable_of s n) b ∷ []) (variable-range s m space is_m)
      (All-cons InRange (literal (variable_of s n) b) [] (variable-range s n space is_n) (All-nil InRange))

  row-over : (P : Meaning → Type 0) (ms : List Meaning) → AreMeaningsOf s P ms → Over (map (yes s) ms)
  row-over P ms are = All-map InRange (yes s) ms
      (all-contained (λ m. InRange (yes s m)) ms (λ m there. variable-range s m space ((are.exact m).0 there).0))

  package-there : (P : Package → Type 0) (number : ℕ) → IsSomeAnd (slice_get s.repository.packages number) P
      → number < length s.repository.packages
  package-there P number there = within-from P s.repository.packages number there

  demand-over : (d : Demand) (clause : List Literal) → IsDemand s d → IsClauseFor s d clause → Over clause
  demand-over (OneClass c k l) clause is for_it = subst Over (sym for_it) (two-over (At c k) (At c l) false false (omega (arith, is.0, is.1)) is.1)
  demand-over (Gone r k) clause is for_it =
      subst Over (sym for_it) (two-over (Present r) (At (slice_index s.cluster_of r) k) false false is.0 is.1)
  demand-over (Moved r k) clause is for_it =
      subst Over (sym for_it) (two-over (New r k) (At (slice_index s.cluster_of r) k) false true is is.1)
  demand-over (Carried r k j) clause is for_it =
      subst Over (sym for_it) (two-over (Kept r k j) (New r k) false true is (package-there _ r is.0, is.1))
  demand-over (OneFresh x k l) clause is for_it = subst Over (sym for_it) (two-over (Fresh x k) (Fresh x l) false false (omega (arith, is.0, is.1)) is.1)
  demand-over (Item number place) clause is for_it =
      let first = here-at (λ (p : Package). IsSomeAnd (slice_get p.depends place) (λ item. AreMeaningsOf s (IsMetBy s item) for_it.0))
      s.repository.packages number for_it.1 in
      let second = here-at (λ (item : List Atom). AreMeaningsOf s (IsMetBy s item) for_it.0) first.element.depends place first.holds in
      subst Over (sym for_it.2) (All-cons InRange (literal (variable_of s (Present number)) false) (map (yes s) for_it.0)
      (variable-range s (Present number) space (package-there _ number for_it.1)) (row-over (IsMetBy s second.element) for_it.0 second.holds))
  demand-over (Apart number other) clause is for_it =
      subst Over (sym for_it) (two-over (Present number) other false false (package-there _ number is.1) is.0)
  demand-over (StaysNow c k) clause is for_it = subst Over (sym for_it) (two-over Now (At c k) false false tt is)
  demand-over (AbsentNow x k) clause is for_it = subst Over (sym for_it) (two-over Now (Fresh x k) false false tt is)
  demand-over (Required name) clause is for_it = subst Over (sym for_it.2) (row-over _ for_it.0 for_it.1)

  pub space-over : (clauses : List (List Literal)) → AreSpaceClauses s clauses → All Over clauses
  space-over clauses are = subst (All Over) (sym are.are) (All-map Over (λ (a : Demand × List Literal). a.1) are.rows
      (all-contained (λ (a : Demand × List Literal). Over a.1) are.rows (λ a there. demand-over a.0 a.1
      ((are.exact a.0).0 (any-contained (λ (b : Demand × List Literal). b.0 ≡ a.0) are.rows a there refl))
      (All-contains (λ (b : Demand × List Literal). IsClauseFor s b.0 b.1) are.rows a are.each there))))
