use Rattle.std.proofs.lemmas.Result.{IfErr-weaker, IfOk-weaker}
use Rattle.dist_outside.specs.DeskView.{DeskView}
use Rattle.dist_line_write.specs.ScriptLaws.{two-grow}
use Rattle.dist_challenge.specs.GroupPrivate.{ChallengeMore, ChallengeStops}
use Rattle.dist_challenge.proofs.ChallengedSteps.{group-claimed, group-stops, ordered-fits}
use Rattle.dist_challenge.proofs.challenged_claimant.ChallengedClaimant.claim_group.Goals as goal

pub returns-clause-ok : goal.returns-clause-ok
returns-clause-ok g c =
    let old : DeskView = g.D.Desk.view c.args.desk.now in
    let mid : DeskView = g.D.Desk.view c.ask_pairs.new.desk in
    let new : DeskView = g.D.Desk.view c.put_challenged.new.desk in
    IfOk-weaker c.put_challenged.result
    (ChallengeMore mid new c.ask_pairs.new.asker c.put_challenged.new.asker c.ask_pairs.new.window c.ask_pairs.new.window c.ask_pairs.new.self.covering
    c.ask_pairs.new.self.covering c.put_in_order.new.self)
    (ChallengeMore old new c.args.asker.now c.put_challenged.new.asker c.args.window.now c.ask_pairs.new.window c.args.self.now.covering
    c.ask_pairs.new.self.covering
    c.args.group.now)
    (λ claim more. group-claimed old mid new c.args.asker.now c.ask_pairs.new.asker c.put_challenged.new.asker c.args.window.now c.ask_pairs.new.window
    c.ask_pairs.new.window c.args.self.now.covering c.ask_pairs.new.self.covering c.ask_pairs.new.self.covering c.args.group.now c.ask_pairs.new.group
    c.put_in_order.new.self claim
    c.file_grows.ensures.twice c.in_ok-ask_pairs.ensures.ok c.put_in_order.ensures more) c.put_challenged.ensures.ok

pub returns-clause-err : goal.returns-clause-err
returns-clause-err g c =
    let old : DeskView = g.D.Desk.view c.args.desk.now in
    let mid : DeskView = g.D.Desk.view c.ask_pairs.new.desk in
    let new : DeskView = g.D.Desk.view c.put_challenged.new.desk in
    IfErr-weaker c.put_challenged.result (ChallengeStops mid new c.ask_pairs.new.asker c.ask_pairs.new.window c.ask_pairs.new.self.covering
    c.put_in_order.new.self)
    (ChallengeStops old new c.args.asker.now c.args.window.now c.args.self.now.covering c.args.group.now)
    (λ error stops. group-stops old mid new c.args.asker.now c.ask_pairs.new.asker c.args.window.now c.ask_pairs.new.window c.args.self.now.covering
    c.ask_pairs.new.self.covering c.args.group.now c.ask_pairs.new.group c.put_in_order.new.self error c.file_grows.ensures.twice c.in_ok-ask_pairs.ensures.ok
    c.put_in_order.ensures stops) c.put_challenged.ensures.err

pub returns-clause-grows : goal.returns-clause-grows
returns-clause-grows g c =
    two-grow c.file_grows.ensures.twice c.ask_pairs.ensures.grows.0 c.put_challenged.ensures.grows.0 (g.D.Desk.view c.args.desk.now)
    (g.D.Desk.view c.ask_pairs.new.desk) (g.D.Desk.view c.put_challenged.new.desk) c.ask_pairs.ensures.grows.1 c.put_challenged.ensures.grows.1

pub put_challenged-requires-clause-fits : goal.put_challenged-requires-clause-fits
put_challenged-requires-clause-fits g c = ordered-fits c.ask_pairs.new.asker c.ask_pairs.new.window c.ask_pairs.new.self.covering c.ask_pairs.new.group
    c.put_in_order.new.self c.put_in_order.ensures c.in_ok-ask_pairs.ensures.fits
