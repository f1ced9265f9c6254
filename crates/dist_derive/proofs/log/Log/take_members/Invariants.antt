use Rattle.std.proofs.Common.{◌-◌}
use Rattle.dist_derive.proofs.ReachLemmas.{MembersSoFar}
use Rattle.dist_derive.proofs.log.Log.take_members.Given as goal

abbrev pub invariant-loop-done : goal.invariant-loop-done
invariant-loop-done l = MembersSoFar l.self.clauses l.inputs l.index l.initial.cone l.cone l.done

abbrev pub decreases-loop-done : goal.decreases-loop-done
decreases-loop-done l = l.cone.variables - l.done
