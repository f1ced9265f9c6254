use Rattle.std.proofs.Common.{take, ◌-◌}
use Rattle.dist_derive.specs.ConePrivate.{Reaches}
use Rattle.dist_derive.proofs.log.Log.take_some.Given as goal

abbrev pub invariant-loop-done : goal.invariant-loop-done
invariant-loop-done l = Reaches (take l.inputs l.self.clauses) l.initial.cone l.cone

abbrev pub decreases-loop-done : goal.decreases-loop-done
decreases-loop-done l = l.cone.variables - l.done
