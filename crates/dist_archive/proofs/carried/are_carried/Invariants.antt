use Rattle.std.proofs.Common.{◌↔◌, ◌≤◌, drop, length}
use Rattle.dist_archive.specs.CarriedPrivate.{CanCarry}
use Rattle.dist_archive.proofs.carried.are_carried.Given as goal

-- what is left can be carried exactly where all can
abbrev pub invariant-loop-number : goal.invariant-loop-number
invariant-loop-number l = record {
  within : l.place ≤ length l.carried;
  same : CanCarry l.old l.new (drop l.number l.entries) (drop l.place l.carried) ↔ CanCarry l.old l.new l.entries l.carried;
}
