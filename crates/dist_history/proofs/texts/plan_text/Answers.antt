use Rattle.std.proofs.Common.{arith}
use Rattle.dist_history.proofs.TextLemmas.{steps-all, steps-more}
use Rattle.dist_history.proofs.texts.plan_text.Goals as goal

pub loop-place-preserved : goal.loop-place-preserved
loop-place-preserved c =
    steps-more c.args.space.now c.args.plan.now c.loop-place.place c.get.result.now c.loop-place.out.items c.write_step.new.out.items c.get.ensures
    c.loop-place.invariant c.in_ok-write_step.ensures

pub returns : goal.returns
returns c =
    steps-all c.args.space.now c.args.plan.now c.loop-place.place c.loop-place.out.items (omega (arith, c.len-place-end.ensures)) c.loop-place.invariant
