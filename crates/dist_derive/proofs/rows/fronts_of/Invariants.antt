use Rattle.std.proofs.Common.{◌≡◌, length}
use Rattle.dist_derive.specs.RowsPrivate.{AreFrontsOf}
use Rattle.dist_derive.proofs.rows.fronts_of.Given as goal

abbrev pub invariant-loop-place : goal.invariant-loop-place
invariant-loop-place l = record {
  fronts : AreFrontsOf l.rows l.pairs l.fronts.items;
  count : length l.fronts.items ≡ l.place;
}
