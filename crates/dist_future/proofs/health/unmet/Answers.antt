use Rattle.std.proofs.Common.{arith}
use Rattle.dist_future.specs.FutureHealth.{IsUnmetAt}
use Rattle.dist_future.proofs.Leasts.{row-none, row-some}
use Rattle.dist_future.proofs.UnmetLemmas.{all-unmet}
use Rattle.dist_future.proofs.health.unmet.Goals as goal

pub returns-in-Some : goal.returns-in-Some
returns-in-Some c = row-some (IsUnmetAt c.args.space.now c.args.members.now) c.loop-variable.variable c.in-Some.place c.loop-variable.invariant
    c.in-Some.ensures

pub loop-variable-preserved : goal.loop-variable-preserved
loop-variable-preserved c = row-none (IsUnmetAt c.args.space.now c.args.members.now) c.loop-variable.variable c.loop-variable.invariant c.in_default.ensures

pub returns : goal.returns
returns c =
    all-unmet c.args.space.now c.args.members.now c.loop-variable.variable c.variables-variable-end.ensures.space
    (let e = c.variables-variable-end.ensures.value in omega (arith, e, c.loop-variable-test.false)) c.loop-variable.invariant
