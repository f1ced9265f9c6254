use Rattle.std.proofs.Common.{take}
use Rattle.std.specs.List.{All}
use Rattle.dist_search.specs.StepsPrivate.{IsSet}
use Rattle.dist_search.proofs.trail.Trail.first_unset.Given as goal

abbrev pub invariant-loop-variable : goal.invariant-loop-variable
invariant-loop-variable l = All (IsSet l.self.literals) (take l.variable-index l.cone.members)
