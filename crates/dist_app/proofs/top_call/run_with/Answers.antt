use Rattle.dist_app.proofs.Headlines.{check_explain_proved, check_proved, check_repair_proved, explain_proved, follow_proved, repair_proved}
use Rattle.dist_app.proofs.Headlines.{steps_proved, sweep_proved}
use Rattle.dist_app.proofs.Stopped.{stops-low}
use Rattle.dist_app.proofs.Truths.{run-is-true}
use Rattle.dist_app.proofs.top_call.run_with.Goals as goal

pub returns-clause-runs : goal.returns-clause-runs
returns-clause-runs g c = c.finish.ensures

pub returns-clause-sweep : goal.returns-clause-sweep
returns-clause-sweep g c =
    sweep_proved _ c.args.limits.now c.finish.result (g.D.Desk.view c.args.desk.now) (g.D.Desk.view c.finish.new.desk) (g.W.Sink.view c.args.out.now)
    (g.W.Sink.view c.finish.new.out) (g.E.Sink.view c.args.err.now) (g.E.Sink.view c.finish.new.err) c.finish.ensures
    c.laws_hold.ensures.claims c.laws_hold.ensures.marks

pub returns-clause-check : goal.returns-clause-check
returns-clause-check g c =
    check_proved _ c.args.limits.now c.finish.result (g.D.Desk.view c.args.desk.now) (g.D.Desk.view c.finish.new.desk) (g.W.Sink.view c.args.out.now)
    (g.W.Sink.view c.finish.new.out) (g.E.Sink.view c.args.err.now) (g.E.Sink.view c.finish.new.err) c.finish.ensures
    c.laws_hold.ensures.marks

pub returns-clause-explain : goal.returns-clause-explain
returns-clause-explain g c =
    explain_proved _ c.args.limits.now c.finish.result (g.D.Desk.view c.args.desk.now) (g.D.Desk.view c.finish.new.desk) (g.W.Sink.view c.args.out.now)
    (g.W.Sink.view c.finish.new.out) (g.E.Sink.view c.args.err.now) (g.E.Sink.view c.finish.new.err) c.finish.ensures
    c.laws_hold.ensures.explanations

pub returns-clause-check_explain : goal.returns-clause-check_explain
returns-clause-check_explain g c =
    check_explain_proved _ c.args.limits.now c.finish.result (g.D.Desk.view c.args.desk.now) (g.D.Desk.view c.finish.new.desk) (g.W.Sink.view c.args.out.now)
    (g.W.Sink.view c.finish.new.out) (g.E.Sink.view c.args.err.now) (g.E.Sink.view c.finish.new.err) c.finish.ensures

pub returns-clause-repair : goal.returns-clause-repair
returns-clause-repair g c =
    repair_proved _ c.args.limits.now c.finish.result (g.D.Desk.view c.args.desk.now) (g.D.Desk.view c.finish.new.desk) (g.W.Sink.view c.args.out.now)
    (g.W.Sink.view c.finish.new.out) (g.E.Sink.view c.args.err.now) (g.E.Sink.view c.finish.new.err) c.finish.ensures
    c.laws_hold.ensures.repairs

pub returns-clause-check_repair : goal.returns-clause-check_repair
returns-clause-check_repair g c =
    check_repair_proved _ c.args.limits.now c.finish.result (g.D.Desk.view c.args.desk.now) (g.D.Desk.view c.finish.new.desk) (g.W.Sink.view c.args.out.now)
    (g.W.Sink.view c.finish.new.out) (g.E.Sink.view c.args.err.now) (g.E.Sink.view c.finish.new.err) c.finish.ensures

pub returns-clause-steps : goal.returns-clause-steps
returns-clause-steps g c =
    steps_proved _ c.args.limits.now c.finish.result (g.D.Desk.view c.args.desk.now) (g.D.Desk.view c.finish.new.desk) (g.W.Sink.view c.args.out.now)
    (g.W.Sink.view c.finish.new.out) (g.E.Sink.view c.args.err.now) (g.E.Sink.view c.finish.new.err) c.finish.ensures

pub returns-clause-follow : goal.returns-clause-follow
returns-clause-follow g c =
    follow_proved _ c.args.limits.now c.finish.result (g.D.Desk.view c.args.desk.now) (g.D.Desk.view c.finish.new.desk) (g.W.Sink.view c.args.out.now)
    (g.W.Sink.view c.finish.new.out) (g.E.Sink.view c.args.err.now) (g.E.Sink.view c.finish.new.err) c.finish.ensures
    c.laws_hold.ensures.marks

pub returns-clause-truth : goal.returns-clause-truth
returns-clause-truth g c =
    run-is-true c.laws_hold.ensures _ c.args.limits.now c.finish.result (g.D.Desk.view c.args.desk.now) (g.D.Desk.view c.finish.new.desk)
    (g.W.Sink.view c.args.out.now) (g.W.Sink.view c.finish.new.out) (g.E.Sink.view c.args.err.now) (g.E.Sink.view c.finish.new.err) c.finish.ensures

pub returns-clause-stopped : goal.returns-clause-stopped
returns-clause-stopped g c =
    stops-low c.laws_hold.ensures _ c.args.limits.now c.finish.result (g.D.Desk.view c.args.desk.now) (g.D.Desk.view c.finish.new.desk)
    (g.W.Sink.view c.args.out.now) (g.W.Sink.view c.finish.new.out) (g.E.Sink.view c.args.err.now) (g.E.Sink.view c.finish.new.err) c.finish.ensures
