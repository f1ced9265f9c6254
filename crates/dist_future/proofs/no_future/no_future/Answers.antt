use Rattle.std.proofs.Common.{arith}
use Rattle.dist_future.specs.FutureHealth.{AreNoFuture}
use Rattle.dist_future.proofs.Leasts.{row-none, row-some}
use Rattle.dist_future.proofs.NoFutureLemmas.{all-rows}
use Rattle.dist_future.proofs.no_future.no_future.Goals as goal

pub returns-in-Some : goal.returns-in-Some
returns-in-Some c = row-some (AreNoFuture c.args.space.now c.args.members.now) c.loop-first.first c.in-Some.second c.loop-first.invariant c.in-Some.ensures

pub loop-first-preserved : goal.loop-first-preserved
loop-first-preserved c = row-none (AreNoFuture c.args.space.now c.args.members.now) c.loop-first.first c.loop-first.invariant c.in_default.ensures

pub returns : goal.returns
returns c =
    all-rows c.args.space.now c.args.members.now c.loop-first.first c.variables-first-end.ensures.space
    (let e = c.variables-first-end.ensures.value in omega (arith, e, c.loop-first-test.false)) c.loop-first.invariant
