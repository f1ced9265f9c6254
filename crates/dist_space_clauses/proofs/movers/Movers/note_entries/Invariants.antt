use Rattle.dist_space_clauses.specs.Moving.{Notes}
use Rattle.dist_space_clauses.proofs.MovingLemmas.{IsOfFirst}
use Rattle.dist_space_clauses.proofs.movers.Movers.note_entries.Given as goal

-- those of the entries so far were noted
abbrev pub invariant-loop-place : goal.invariant-loop-place
invariant-loop-place l = Notes l.fn.self l.self (IsOfFirst l.package l.place l.number)
