use Rattle.std.proofs.Common.{◌≡◌, ◌-◌, take}
use Rattle.dist_derive.specs.FarPrivate.{IsFarIfMade}
use Rattle.dist_derive.proofs.GrowingLemmas.{ReachesSoFar}
use Rattle.dist_derive.proofs.log.Log.finds_lines.Given as goal

abbrev pub invariant-loop-done : goal.invariant-loop-done
invariant-loop-done l = record {
  so_far : ReachesSoFar (take l.inputs l.self.clauses) l.assumptions l.cone;
  same_variables : l.cone.variables ≡ l.self.variables;
  far : IsFarIfMade (take l.inputs l.self.clauses) l.self.variables l.far;
}

abbrev pub decreases-loop-done : goal.decreases-loop-done
decreases-loop-done l = l.cone.variables - l.done
