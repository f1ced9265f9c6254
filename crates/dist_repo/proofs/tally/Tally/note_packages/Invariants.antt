use Rattle.dist_repo.proofs.NotedLemmas.{IsTallyBelow}
use Rattle.dist_repo.proofs.tally.Tally.note_packages.Given as goal

-- the packages so far are noted
abbrev pub invariant-loop-number : goal.invariant-loop-number
invariant-loop-number l = IsTallyBelow l.architecture l.packages l.number l.self
