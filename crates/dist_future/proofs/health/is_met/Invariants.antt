use Rattle.dist_future.proofs.UnmetLemmas.{IsNoneMet}
use Rattle.dist_future.proofs.health.is_met.Given as goal

-- no alternative so far is met, of those that are asked
abbrev pub invariant-loop-place : goal.invariant-loop-place
invariant-loop-place l = IsNoneMet l.space l.members l.alternatives l.asked l.place
