use Rattle.std.proofs.Common.{Global, map, string_bytes, subst}
use Rattle.dist_outside.specs.declared.limits.Limits.{Limits}
use Rattle.dist_app.specs.Headline.{CheckExplainIsProved, CheckRepairIsProved, ExplainIsProved, FollowIsProved, RepairIsProved, StepsAreProved}
use Rattle.dist_app.specs.Stopped.{StopsLow}
use Rattle.dist_app.specs.Truth.{IsTrue}
use Rattle.dist_app.proofs.top_call.run.Goals as goal

pub returns-clause-check_explain : goal.returns-clause-check_explain
returns-clause-check_explain g c =
    subst (λ (limits : Limits). CheckExplainIsProved (map (string_bytes {Z = Global}) c.args.words.now) limits c.run_with.result
    (g.D.Desk.view c.args.desk.now) (g.D.Desk.view c.run_with.new.desk) (g.W.Sink.view c.args.out.now) (g.W.Sink.view c.run_with.new.out))
    c.stated.ensures c.run_with.ensures.check_explain

pub returns-clause-explain : goal.returns-clause-explain
returns-clause-explain g c =
    subst (λ (limits : Limits). ExplainIsProved (map (string_bytes {Z = Global}) c.args.words.now) limits c.run_with.result
    (g.D.Desk.view c.args.desk.now) (g.D.Desk.view c.run_with.new.desk) (g.W.Sink.view c.args.out.now) (g.W.Sink.view c.run_with.new.out))
    c.stated.ensures c.run_with.ensures.explain

pub returns-clause-repair : goal.returns-clause-repair
returns-clause-repair g c =
    subst (λ (limits : Limits). RepairIsProved (map (string_bytes {Z = Global}) c.args.words.now) limits c.run_with.result
    (g.D.Desk.view c.args.desk.now) (g.D.Desk.view c.run_with.new.desk) (g.W.Sink.view c.args.out.now) (g.W.Sink.view c.run_with.new.out))
    c.stated.ensures c.run_with.ensures.repair

pub returns-clause-check_repair : goal.returns-clause-check_repair
returns-clause-check_repair g c =
    subst (λ (limits : Limits). CheckRepairIsProved (map (string_bytes {Z = Global}) c.args.words.now) limits c.run_with.result
    (g.D.Desk.view c.args.desk.now) (g.D.Desk.view c.run_with.new.desk) (g.W.Sink.view c.args.out.now) (g.W.Sink.view c.run_with.new.out))
    c.stated.ensures c.run_with.ensures.check_repair

pub returns-clause-steps : goal.returns-clause-steps
returns-clause-steps g c =
    subst (λ (limits : Limits). StepsAreProved (map (string_bytes {Z = Global}) c.args.words.now) limits c.run_with.result (g.D.Desk.view c.args.desk.now)
    (g.D.Desk.view c.run_with.new.desk) (g.W.Sink.view c.args.out.now) (g.W.Sink.view c.run_with.new.out)) c.stated.ensures c.run_with.ensures.steps

pub returns-clause-follow : goal.returns-clause-follow
returns-clause-follow g c =
    subst (λ (limits : Limits). FollowIsProved (map (string_bytes {Z = Global}) c.args.words.now) limits c.run_with.result (g.D.Desk.view c.args.desk.now)
    (g.D.Desk.view c.run_with.new.desk) (g.W.Sink.view c.args.out.now) (g.W.Sink.view c.run_with.new.out)) c.stated.ensures c.run_with.ensures.follow

pub returns-clause-stopped : goal.returns-clause-stopped
returns-clause-stopped g c =
    subst (λ (limits : Limits). StopsLow (map (string_bytes {Z = Global}) c.args.words.now) limits c.run_with.result
    (g.D.Desk.view c.args.desk.now).files (g.D.Desk.view c.run_with.new.desk).files) c.stated.ensures c.run_with.ensures.stopped

pub returns-clause-truth : goal.returns-clause-truth
returns-clause-truth g c =
    subst (λ (limits : Limits). IsTrue (map (string_bytes {Z = Global}) c.args.words.now) limits c.run_with.result
    (g.D.Desk.view c.args.desk.now).files (g.W.Sink.view c.args.out.now) (g.W.Sink.view c.run_with.new.out)) c.stated.ensures c.run_with.ensures.truth
