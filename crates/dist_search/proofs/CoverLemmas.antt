-- Clauses are watched one after another.
use Rattle.std.proofs.Common.{◌≡◌, ℕ, List}
use Rattle.dist_clause.specs.Formula.{Literal}
use Rattle.dist_search.specs.Trail.{TrailState}
use Rattle.dist_search.specs.Search.{SearchState, IsWatching}

-- clauses have been watched, and none is empty
pub record Covers (clauses : List (List Literal)) (old new : SearchState) : Type 0 where
  pub watching : IsWatching clauses new
  pub same_trail : new.trail ≡ old.trail
  pub no_conflict : new.conflict ≡ 0

pub watching_stuck : (clauses : List (List Literal)) (s : SearchState) (number : ℕ) → IsWatching clauses s → IsWatching clauses (record s { conflict = number })
watching_stuck clauses s number h = record { within = h.within; watches = h.watches; covered = h.covered; singles = h.singles }

pub watching_trail : (clauses : List (List Literal)) (s : SearchState) (trail : TrailState) → IsWatching clauses s
    → IsWatching clauses (record s { trail = trail })
watching_trail clauses s trail h = record { within = h.within; watches = h.watches; covered = h.covered; singles = h.singles }
