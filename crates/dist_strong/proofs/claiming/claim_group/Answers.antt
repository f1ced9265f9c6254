use Rattle.std.proofs.lemmas.Result.{IfErr-weaker, IfOk-weaker}
use Rattle.dist_outside.specs.DeskView.{DeskView}
use Rattle.dist_strong.specs.ClaimingPrivate.{StrongMore}
use Rattle.dist_strong.specs.SettlingPrivate.{SettleStops}
use Rattle.dist_strong.proofs.Claimed.{group-claimed}
use Rattle.dist_line_write.specs.ScriptLaws.{two-grow}
use Rattle.dist_strong.proofs.SettleSteps.{settle-stops}
use Rattle.dist_strong.proofs.claiming.claim_group.Goals as goal

pub returns-clause-ok : goal.returns-clause-ok
returns-clause-ok g c =
    let old : DeskView = g.D.Desk.view c.args.desk.now in
    let mid : DeskView = g.D.Desk.view c.ask_candidates.new.desk in
    let new : DeskView = g.D.Desk.view c.put_strong.new.desk in
    IfOk-weaker c.put_strong.result (StrongMore mid new c.ask_candidates.new.asker c.put_strong.new.asker c.ask_candidates.new.window
    c.ask_candidates.new.window c.ask_candidates.new.group)
    (StrongMore old new c.args.asker.now c.put_strong.new.asker c.args.window.now c.ask_candidates.new.window c.args.group.now)
    (λ claim more. group-claimed c.file_grows.ensures.twice old mid new c.args.asker.now c.ask_candidates.new.asker c.put_strong.new.asker c.args.window.now
    c.ask_candidates.new.window c.args.group.now c.ask_candidates.new.group claim
    c.in_ok-ask_candidates.ensures.ok more) c.put_strong.ensures.ok

pub returns-clause-err : goal.returns-clause-err
returns-clause-err g c =
    let old : DeskView = g.D.Desk.view c.args.desk.now in
    let mid : DeskView = g.D.Desk.view c.ask_candidates.new.desk in
    let new : DeskView = g.D.Desk.view c.put_strong.new.desk in
    IfErr-weaker c.put_strong.result (SettleStops mid new c.ask_candidates.new.asker c.ask_candidates.new.window c.ask_candidates.new.group)
    (SettleStops old new c.args.asker.now c.args.window.now c.args.group.now)
    (λ error stops. settle-stops c.file_grows.ensures.twice old mid new c.args.asker.now c.ask_candidates.new.asker c.args.window.now
    c.ask_candidates.new.window c.args.group.now c.ask_candidates.new.group error
    c.in_ok-ask_candidates.ensures.ok stops) c.put_strong.ensures.err

pub returns-clause-grows : goal.returns-clause-grows
returns-clause-grows g c =
    two-grow c.file_grows.ensures.twice c.ask_candidates.ensures.grows.0 c.put_strong.ensures.grows.0 (g.D.Desk.view c.args.desk.now)
    (g.D.Desk.view c.ask_candidates.new.desk) (g.D.Desk.view c.put_strong.new.desk)
    c.ask_candidates.ensures.grows.1 c.put_strong.ensures.grows.1
