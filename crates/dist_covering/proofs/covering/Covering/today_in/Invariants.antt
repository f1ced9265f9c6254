use Rattle.std.specs.Prelude.{IfSome}
use Rattle.dist_covering.specs.OpenPairs.{IsTodayWith}
use Rattle.dist_covering.proofs.covering.Covering.today_in.Given as goal

abbrev pub invariant-loop-back : goal.invariant-loop-back
invariant-loop-back l = IfSome l.found (IsTodayWith l.window l.present)
