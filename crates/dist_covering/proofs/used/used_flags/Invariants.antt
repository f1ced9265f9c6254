use Rattle.std.proofs.Common.{◌-◌, ◌≤◌, length}
use Rattle.dist_covering.specs.Used.{AreFlags}
use Rattle.dist_covering.proofs.used.used_flags.Given as goal

abbrev pub invariant-variables : goal.invariant-variables
invariant-variables l = record {
  within : l.last ≤ length l.space.meanings;
  flags : AreFlags l.space l.values l.last l.flags;
}

abbrev pub decreases-variables : goal.decreases-variables
decreases-variables l = length l.space.meanings - l.last
