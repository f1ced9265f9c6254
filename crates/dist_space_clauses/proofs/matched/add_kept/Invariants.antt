use Rattle.std.proofs.Common.{ℕ, List, ◌↔◌, length}
use Rattle.std.specs.Prelude.{Contains}
use Rattle.dist_space.specs.EntryOrder.{IsEntryNamed}
use Rattle.dist_space_clauses.proofs.MatchLemmas.{AreRun}
use Rattle.dist_space_clauses.proofs.matched.add_kept.Given as goal

-- those of the entries so far were added
abbrev pub invariant-loop-rest : goal.invariant-loop-rest
invariant-loop-rest l = (places : List ℕ) × ((j : ℕ) → Contains places j ↔ IsEntryNamed l.space.repository.packages l.member l.atom.name j)
    × AreRun l.space l.atom l.member places l.rest l.initial.variables.items l.variables.items

abbrev pub decreases-loop-rest : goal.decreases-loop-rest
decreases-loop-rest l = length l.rest
