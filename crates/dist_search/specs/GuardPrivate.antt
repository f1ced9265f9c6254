-- What looks at clauses leave while a literal is taken.
use Rattle.std.specs.Prelude.{◌≡◌, ◌≢◌, ◌-◌, ◌≤◌, ◌⊎◌, ℕ, Bool, false, List, length, take, All, Contains, IsTrue}
use Rattle.dist_clause.specs.Formula.{Literal}
use Rattle.dist_clause.specs.ClauseList.{clause_at}
use Rattle.dist_derive.specs.Propagation.{AllFalse, IsFalse}
use Rattle.dist_derive.specs.Follows.{IsNumberOf}
use Rattle.dist_derive.specs.Watches.{WatchLists, list_of, pair_of, HasOther, HasNot, HasTrueOne}
use Rattle.dist_search.specs.Trail.{TrailState, literal_at}
use Rattle.dist_search.specs.Guard.{AreGuarded, Advances}

-- all variables of a clause lie in the cone
abbrev pub LiesIn : List ℕ → List Literal → Type 0
LiesIn cone clause = All (λ l. Contains cone l.variable) clause

-- the literal is the last one that was taken, and clauses are guarded by those before it
pub record IsTaking (watches : WatchLists) (clauses : List (List Literal)) (cone : List ℕ) (trail : TrailState)
    (literal : Literal) : Type 0 where
  pub from_one : 1 ≤ trail.head
  pub to_end : trail.head ≤ length trail.literals
  pub there : literal ≡ literal_at trail.literals (trail.head - 1)
  pub guarded : AreGuarded watches clauses cone trail.literals (take (trail.head - 1) trail.literals)

-- a trail has grown by what clauses gave, and no literal was taken
pub record GoesOn (clauses : List (List Literal)) (cone : List ℕ) (old new : WatchLists) (before after : TrailState)
    : Type 0 where
  pub advances : Advances clauses cone old new before after
  pub same_head : after.head ≡ before.head

-- a clause of this number is false
abbrev pub IsConflict : List (List Literal) → List Literal → ℕ → Type 0
IsConflict clauses trues number = IsNumberOf clauses number × AllFalse trues (clause_at clauses number)

-- the false one of a clause's two watched literals has given way to one that is not false
pub record IsMoved (old new : WatchLists) (trues : List Literal) (number : ℕ) (l : Literal) : Type 0 where
  pub kept : Literal
  pub taken : Literal
  pub was : HasOther (pair_of old number) l kept
  pub is : pair_of new number ≡ (kept, taken)
  pub apart : kept ≢ taken
  pub free : ¬ IsFalse trues taken

-- What a look at a clause leaves that is found by a false literal: where it lies in the cone, one of its literals is
-- true, or it is found by another one now, or it is not found by this one at all; or else it is false.
pub record Looks (clauses : List (List Literal)) (cone : List ℕ) (number : ℕ) (l : Literal) (old new : WatchLists)
    (before after : TrailState) (fine : Bool) : Type 0 where
  pub goes_on : GoesOn clauses cone old new before after
  pub guarded : IsTrue fine → 1 ≤ number → number ≤ length clauses → LiesIn cone (clause_at clauses number)
      → HasTrueOne after.literals (clause_at clauses number) ⊎ (IsMoved old new before.literals number l
      ⊎ ((new ≡ old) × (after ≡ before) × HasNot (pair_of new number) l))
  pub conflict : fine ≡ false → IsConflict clauses after.literals number
  pub same_list : IsFalse before.literals l → list_of new l ≡ list_of old l
