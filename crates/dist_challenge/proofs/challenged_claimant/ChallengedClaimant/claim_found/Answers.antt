use Rattle.std.proofs.Common.{ℕ, subst}
use Rattle.std.proofs.lemmas.Result.{IfErr-weaker, IfOk-weaker}
use Rattle.dist_outside.specs.DeskView.{DeskView}
use Rattle.dist_line_write.specs.Asking.{AskerView}
use Rattle.dist_sweep.specs.Claiming.{ClaimMore, ClaimStops}
use Rattle.dist_sweep.specs.Window.{WindowView}
use Rattle.dist_challenge.specs.BegunPrivate.{BegunMore, BegunStops}
use Rattle.dist_covering.specs.Covering.{CoveringView}
use Rattle.dist_challenge.specs.ChallengedPrivate.{KeepsChallenged}
use Rattle.dist_covering.specs.Group.{GroupView}
use Rattle.dist_challenge.proofs.ChallengedSteps.{begun-claimed, begun-stops}
use Rattle.dist_challenge.proofs.challenged_claimant.ChallengedClaimant.claim_found.Goals as goal

pub returns-clause-ok : goal.returns-clause-ok
returns-clause-ok g c =
    let old : DeskView = g.D.Desk.view c.args.desk.now in
    let a : AskerView = c.args.asker.now in
    let w : WindowView = c.args.window.now in
    let self : CoveringView = c.args.self.now.covering in
    let new : DeskView = g.D.Desk.view c.claim_by_today.new.desk in
    IfOk-weaker c.claim_by_today.result
    (BegunMore old new a c.claim_by_today.new.asker w c.claim_by_today.new.window self c.claim_by_today.new.self.covering c.new-group.result
    c.count-earlier.result)
    (ClaimMore KeepsChallenged c.args.package old new a c.claim_by_today.new.asker w c.claim_by_today.new.window self c.claim_by_today.new.self.covering)
    (λ claim more. begun-claimed old new a c.claim_by_today.new.asker w c.claim_by_today.new.window self c.claim_by_today.new.self.covering c.args.package
    c.args.present claim
    c.requires.fits.upto c.requires.present
    (subst (λ (x : GroupView). BegunMore old new a c.claim_by_today.new.asker w c.claim_by_today.new.window self c.claim_by_today.new.self.covering x w.count
    claim)
    c.new-group.ensures
    (subst (λ (n : ℕ). BegunMore old new a c.claim_by_today.new.asker w c.claim_by_today.new.window self c.claim_by_today.new.self.covering c.new-group.result
    n claim)
    c.count-earlier.ensures more))) c.claim_by_today.ensures.ok

pub returns-clause-err : goal.returns-clause-err
returns-clause-err g c =
    let old : DeskView = g.D.Desk.view c.args.desk.now in
    let a : AskerView = c.args.asker.now in
    let w : WindowView = c.args.window.now in
    let self : CoveringView = c.args.self.now.covering in
    let new : DeskView = g.D.Desk.view c.claim_by_today.new.desk in
    IfErr-weaker c.claim_by_today.result (BegunStops old new a w self c.new-group.result c.count-earlier.result)
    (ClaimStops KeepsChallenged c.args.package old new a w self)
    (λ error stops. begun-stops old new a w self c.args.package c.args.present error c.requires.fits.upto c.requires.present
    (subst (λ (x : GroupView). BegunStops old new a w self x w.count error) c.new-group.ensures
    (subst (λ (n : ℕ). BegunStops old new a w self c.new-group.result n error) c.count-earlier.ensures stops))) c.claim_by_today.ensures.err
