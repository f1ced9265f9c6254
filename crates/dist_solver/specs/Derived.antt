-- What a solver keeps: its log, and for each line that the last question added the line's number and the hints by which
-- it follows.
use Rattle.std.specs.Prelude.{ℕ, List, [], slice_index_or}
use Rattle.dist_derive.specs.ClauseLog.{ClauseLog}

pub record DerivedLine : Type 0 where
  pub line : ℕ
  pub hints : List ℕ

pub record SolverState : Type 0 where
  pub log : ClauseLog
  pub derived : List DerivedLine

-- the line at a place, from 0
abbrev pub line_at : List DerivedLine → ℕ → DerivedLine
line_at derived place = slice_index_or derived place (record { line = 0; hints = [] })
