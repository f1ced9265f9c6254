use Rattle.dist_derive.specs.RowsPrivate.{AreJumpsOf}
use Rattle.std.proofs.Common.{◌≡◌, length}
use Rattle.dist_derive.proofs.rows.jumps_of.Given as goal

abbrev pub invariant-loop-done : goal.invariant-loop-done
invariant-loop-done l = record {
  jumps : AreJumpsOf l.fronts l.jumps.items;
  same : length l.jumps.items ≡ length l.fronts;
}
