use Rattle.dist_future.proofs.MissingLemmas.{IsNoneOf}
use Rattle.dist_future.proofs.health.is_borne.Given as goal

-- no new version so far
abbrev pub invariant-loop-class : goal.invariant-loop-class
invariant-loop-class l = IsNoneOf l.space l.members l.number l.class
