-- What propagation by watches leaves, and what a log knows of it between two tests.
use Rattle.std.specs.Prelude.{◌≡◌, ◌⊎◌, ℕ, Bool, false, ◌≤◌, List, [], length, take}
use Rattle.std.specs.Prelude.{IsTrue}
use Rattle.dist_clause.specs.Formula.{Literal}
use Rattle.dist_clause.specs.ClauseList.{clause_at}
use Rattle.dist_derive.specs.ContainmentPrivate.{ContainsAll}
use Rattle.dist_derive.specs.Propagation.{IsFalse}
use Rattle.dist_derive.specs.New.{LeavesFirstUnset}
use Rattle.dist_derive.specs.TrueLiterals.{LiteralList}
use Rattle.dist_derive.specs.SweepPrivate.{IsForced, IsRefuted, Propagates}
use Rattle.dist_derive.specs.Watches.{WatchLists, list_of, pair_of, HasNot, AreWatchesOf, IsGuarded, StayFree}

-- the clauses with numbers up to `last` are guarded
abbrev pub AllGuarded : WatchLists → List (List Literal) → ℕ → List Literal → List Literal → Type 0
AllGuarded watches clauses last trues seen = (number : ℕ) → 1 ≤ number → number ≤ last
    → IsGuarded watches trues seen (clause_at clauses number) number

-- true literals have grown by what the first `last` clauses force, and watches have moved
pub record Advances (clauses : List (List Literal)) (last : ℕ) (old new : WatchLists) (before after : LiteralList)
    : Type 0 where
  pub grows : Propagates (take last clauses) before after
  pub stay : StayFree old new before.literals
  pub watches : AreWatchesOf old clauses → AreWatchesOf new clauses

-- what a look at a clause leaves: it is guarded, or else false, and then nothing can be true with what is
pub record Looks (clauses : List (List Literal)) (last number : ℕ) (old new : WatchLists) (before after : LiteralList)
    (fine : Bool) : Type 0 where
  pub advances : Advances clauses last old new before after
  pub guarded : IsTrue fine → IsGuarded new after.literals after.literals (clause_at clauses number) number
  pub refuted : fine ≡ false → IsRefuted (take last clauses) before.literals
  pub false_lists : (l : Literal) → IsFalse before.literals l → list_of new l ≡ list_of old l

-- the same, where only clauses that are found by a literal are looked at
pub record LooksAgain (clauses : List (List Literal)) (last number : ℕ) (l : Literal) (old new : WatchLists)
    (before after : LiteralList) (fine : Bool) : Type 0 where
  pub advances : Advances clauses last old new before after
  pub guarded : IsTrue fine → 1 ≤ number → number ≤ last
      → IsGuarded new after.literals after.literals (clause_at clauses number) number
      ⊎ ((new ≡ old) × (after ≡ before) × HasNot (pair_of new number) l)
  pub refuted : fine ≡ false → IsRefuted (take last clauses) before.literals
  pub false_lists : (m : Literal) → IsFalse before.literals m → list_of new m ≡ list_of old m

-- the literals are forced by the assumptions under the first clauses, have the assumptions, and guard these clauses
pub record Stands (watches : WatchLists) (clauses : List (List Literal)) (assumptions trues : List Literal) (taken : ℕ)
    : Type 0 where
  pub within : taken ≤ length clauses
  pub assumed : ContainsAll trues assumptions
  pub forced : IsForced (take taken clauses) assumptions trues
  pub guarded : AllGuarded watches clauses taken trues trues

-- what is kept between two tests: the watches; true literals, of which the first `ground` are what the first `grounded`
-- clauses give alone, and all are what the assumptions and the first `taken` clauses give
pub record WatchingState : Type 0 where
  pub is_made : Bool
  pub watches : WatchLists
  pub literals : LiteralList
  pub ground : ℕ
  pub grounded : ℕ
  pub assumptions : List Literal
  pub taken : ℕ

-- what the first clauses give alone
pub record IsGrounded (clauses : List (List Literal)) (variables : ℕ) (watching : WatchingState) : Type 0 where
  pub same_variables : watching.literals.variables ≡ variables
  pub within : watching.ground ≤ length watching.literals.literals
  pub watched : AreWatchesOf watching.watches clauses
  pub alone : Stands watching.watches clauses [] (take watching.ground watching.literals.literals) watching.grounded

-- and under the assumptions
pub record IsStanding (clauses : List (List Literal)) (variables : ℕ) (watching : WatchingState) : Type 0 where
  pub is_grounded : IsGrounded clauses variables watching
  pub under : Stands watching.watches clauses watching.assumptions watching.literals.literals watching.taken

-- what coming to assumptions and the first clauses leaves: that, or a conflict, with which no clause is new
pub record StandsFor (clauses : List (List Literal)) (variables : ℕ) (assumptions : List Literal) (last : ℕ)
    (watching : WatchingState) (fine : Bool) : Type 0 where
  pub standing : IsStanding clauses variables watching
  pub under : IsTrue fine → (watching.assumptions ≡ assumptions) × (watching.taken ≡ last)
  pub refused : fine ≡ false → (clause : List Literal) → ¬ LeavesFirstUnset (take last clauses) assumptions clause

-- what a test leaves: the true literals of before with others behind them, and watches that serve still
pub record Tries (clauses : List (List Literal)) (old new : WatchLists) (before after : LiteralList) : Type 0 where
  pub same_variables : after.variables ≡ before.variables
  pub front : take (length before.literals) after.literals ≡ before.literals
  pub stay : StayFree old new before.literals
  pub watches : AreWatchesOf new clauses

-- a watching stands, where there is one
abbrev pub IsStandingIfMade : List (List Literal) → ℕ → WatchingState → Type 0
IsStandingIfMade clauses variables watching = IsTrue watching.is_made → IsStanding clauses variables watching
