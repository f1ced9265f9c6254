use Rattle.std.proofs.Common.{arith}
use Rattle.std.proofs.lemmas.List.{take_rest}
use Rattle.dist_outside.proofs.Growing.{Grew-nothing, Grew-more}
use Rattle.dist_outside.proofs.whole.write_whole.Goals as goal

pub loop-done-init : goal.loop-done-init
loop-done-init g c = record { within = omega arith; taken = Grew-nothing _ }

pub loop-done-preserved : goal.loop-done-preserved
loop-done-preserved g c = record {
  within = omega (arith, c.in-Ok.ensures.count);
  taken = Grew-more c.args.bytes.now c.loop-done.done c.in-Ok.count _ _ _
      c.loop-done.invariant.taken (rw take_rest at c.in-Ok.ensures.appended);
}
