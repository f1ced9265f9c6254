use Rattle.std.proofs.Common.{◌≡◌, length, take}
use Rattle.dist_search.specs.StepsPrivate.{AreValuesOf}
use Rattle.dist_search.proofs.trail.Trail.values.Given as goal

abbrev pub invariant-loop-place : goal.invariant-loop-place
invariant-loop-place l = record {
  values : AreValuesOf (take l.place l.self.literals) l.values;
  variables : length l.values ≡ l.self.variables;
}
