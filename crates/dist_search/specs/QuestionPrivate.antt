-- How a question begins.
use Rattle.std.specs.Prelude.{◌≡◌, ◌≢◌, ◌⊎◌, ℕ, List, [], length, All, Contains, slice_index}
use Rattle.dist_clause.specs.Formula.{Literal}
use Rattle.dist_clause.specs.ClauseList.{clause_at}
use Rattle.dist_derive.specs.ContainmentPrivate.{ContainsAll}
use Rattle.dist_derive.specs.OccurrencesPrivate.{code_of}
use Rattle.dist_derive.specs.Follows.{IsNumberOf}
use Rattle.dist_search.specs.Trail.{IsTrail}
use Rattle.dist_search.specs.Search.{SearchState, IsWatching, IsStuck}

-- all clauses are watched, or the conflict is an empty one
abbrev pub IsAllOrEmpty : List (List Literal) → SearchState → Type 0
IsAllOrEmpty clauses search = ((search.conflict ≡ 0) × (search.watched ≡ length clauses))
    ⊎ (IsNumberOf clauses search.conflict × (clause_at clauses search.conflict ≡ []))

-- the assumptions are true, and behind them single literals of the cone; none is taken yet
pub record IsBegun (clauses : List (List Literal)) (assumptions : List Literal) (cone : List ℕ)
    (search : SearchState) : Type 0 where
  pub watching : IsWatching clauses search
  pub trail : IsTrail clauses assumptions search.trail
  pub within_cone : All (λ l. Contains cone l.variable) search.trail.literals
  pub no_start : search.trail.starts ≡ []
  pub none_taken : search.trail.head ≡ 0
  pub stuck : search.conflict ≢ 0 → IsStuck clauses search

-- a literal is true if a clause of it alone is known
abbrev pub IsTaken : SearchState → Literal → Type 0
IsTaken search l = slice_index search.singles (code_of l) ≢ 0 → Contains search.trail.literals l

-- true literals and a conflict stay, and what is watched is the same
pub record Goes (old new : SearchState) : Type 0 where
  pub same_variables : new.trail.variables ≡ old.trail.variables
  pub same_singles : new.singles ≡ old.singles
  pub same_watched : new.watched ≡ old.watched
  pub conflict : new.conflict ≡ 0 → old.conflict ≡ 0
  pub kept : ContainsAll new.trail.literals old.trail.literals
