use Rattle.std.proofs.Common.{◌≤◌, drop, length}
use Rattle.dist_archive.specs.CarriedPrivate.{CanCarry}
use Rattle.dist_archive.proofs.carried.are_found.Given as goal

-- what is left is enough
abbrev pub invariant-loop-number : goal.invariant-loop-number
invariant-loop-number l = record {
  within : l.from ≤ length l.old.provides;
  enough : CanCarry l.old.version l.new.version (drop l.from l.old.provides) (drop l.number l.new.provides)
      → CanCarry l.old.version l.new.version l.old.provides l.new.provides;
}
