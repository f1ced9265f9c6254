use Rattle.std.proofs.Common.{arith}
use Rattle.dist_sweep.specs.Window.{WindowView}
use Rattle.dist_covering.specs.Covering.{CoveringView}
use Rattle.dist_covering.proofs.CoverSteps.{plan-passed}
use Rattle.dist_covering.proofs.covering.Covering.strike.Goals as goal
use Rattle.dist_covering.proofs.covering.Covering.strike.Goals.{then-number-today+then-number-bound+then-is_with+in_ok-struck, else-number-today}

pub known-preserved : goal.known-preserved
known-preserved c =
    let self : CoveringView = c.args.self.now in
    let kept : WindowView = c.args.window.now in
    elim c.if-number-today.branch [
      | then-number-today+then-number-bound+then-is_with+in_ok-struck w ↦ record {
        inside = rw w.ats-is w.in_ok-struck.ensures.inside;
        plan = λ own start are. rw (w.ats-is, w.named-is, w.bound-is)
            (w.in_ok-struck.ensures.plan c.args.present own c.args.today start (w.is_with.ensures.has w.if-is_with.true) w.if-number-today.true
            (plan-passed self kept c.args.present own c.args.today start c.known.bound c.latest-number.result c.known.named.items c.known.ats.items
            w.if-number-bound.true (c.known.invariant.plan own start are)));
      }
      | else-number-today w ↦ record {
        inside = rw w.ats-is c.known.invariant.inside;
        plan = λ own start are. rw (w.ats-is, w.named-is, w.bound-is) (c.known.invariant.plan own start are);
      }
    ]

pub returns : goal.returns
returns c = λ own start are.
    plan-passed c.args.self.now c.args.window.now c.args.present own c.args.today start c.known.bound 0 c.known.named.items c.known.ats.items (omega arith)
    (c.known.invariant.plan own start are)
