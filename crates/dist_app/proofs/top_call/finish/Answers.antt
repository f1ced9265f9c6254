use Rattle.std.proofs.Common.{map, string_bytes, subst, sym}
use Rattle.dist_commands.specs.declared.status.Status.{Status}
use Rattle.dist_app.specs.Run.{Runs}
use Rattle.dist_app.proofs.Runs.{answered_runs, refused_runs}
use Rattle.dist_app.proofs.top_call.finish.Goals as goal

pub returns-in-Ok : goal.returns-in-Ok
returns-in-Ok g c =
    answered_runs c.laws_hold.ensures.texts _ c.args.limits.now c.in-Ok.status (g.D.Desk.view c.args.desk.now) (g.D.Desk.view c.carry_out.new.desk)
    (g.W.Sink.view c.args.out.now) (g.W.Sink.view c.carry_out.new.out) (g.E.Sink.view c.args.err.now) c.in-Ok.ensures.ends c.in-Ok.ensures.leaves
    (c.sink_grows.ensures.begin (g.E.Sink.view c.args.err.now))

pub returns-in-Err : goal.returns-in-Err
returns-in-Err g c =
    subst (λ (s : Status). Runs (map string_bytes c.args.words.now) c.args.limits.now s (g.D.Desk.view c.args.desk.now) (g.D.Desk.view c.carry_out.new.desk)
    (g.W.Sink.view c.args.out.now) (g.W.Sink.view c.carry_out.new.out) (g.E.Sink.view c.args.err.now) (g.E.Sink.view c.write_refusal.new.err))
    (sym c.status-status.ensures)
    (refused_runs c.laws_hold.ensures.texts _ c.args.limits.now (g.D.Desk.view c.args.desk.now) (g.D.Desk.view c.carry_out.new.desk)
    (g.W.Sink.view c.args.out.now) (g.W.Sink.view c.carry_out.new.out) c.in-Err.refusal c.in-Err.ensures.ends c.write_refusal.result
    (g.E.Sink.view c.args.err.now) (g.E.Sink.view c.write_refusal.new.err) c.in-Err.ensures.leaves c.write_refusal.ensures)
