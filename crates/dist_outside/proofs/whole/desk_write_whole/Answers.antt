use Rattle.std.proofs.Common.{arith}
use Rattle.std.proofs.lemmas.List.{take_rest}
use Rattle.dist_outside.proofs.Growing.{FileGrew-nothing, FileGrew-more, file_grew_by_front}
use Rattle.dist_outside.proofs.whole.desk_write_whole.Goals as goal

pub loop-done-init : goal.loop-done-init
loop-done-init g c = record { within = omega arith; taken = FileGrew-nothing _ }

pub loop-done-preserved : goal.loop-done-preserved
loop-done-preserved g c = record {
  within = omega (arith, c.in-Ok.ensures.count);
  taken = FileGrew-more c.args.bytes.now c.loop-done.done c.in-Ok.count _ _ _
      c.loop-done.invariant.taken (rw take_rest at c.in-Ok.ensures.appended);
}

pub returns-in-Err-Failed-clause-front : goal.returns-in-Err-Failed-clause-front
returns-in-Err-Failed-clause-front g c =
    file_grew_by_front c.args.bytes.now c.loop-done.done _ _ _ c.loop-done.invariant.within c.loop-done.invariant.taken c.in-Err-Failed.ensures.refused

pub returns-in-Err-NoMemory-clause-front : goal.returns-in-Err-NoMemory-clause-front
returns-in-Err-NoMemory-clause-front g c =
    file_grew_by_front c.args.bytes.now c.loop-done.done _ _ _ c.loop-done.invariant.within c.loop-done.invariant.taken c.in-Err-NoMemory.ensures.refused
