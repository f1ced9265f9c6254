use Rattle.std.proofs.Common.{◌^◌, ◌<◌, Result, IfErr, arith}
use Rattle.dist_outside.specs.DeskView.{DeskView}
use Rattle.dist_outside.specs.declared.trouble.WorkError.{WorkError}
use Rattle.dist_outside.specs.declared.trouble.WorkError.TheVariants.{NoMemory}
use Rattle.dist_cert.specs.declared.records.Claim.{Claim}
use Rattle.dist_strong.specs.SettlingPrivate.{SettleStops}
use Rattle.dist_strong.proofs.ClaimSteps.{strong-more, strong-stops}
use Rattle.dist_line_write.specs.ScriptLaws.{by-exit}
use Rattle.dist_strong.proofs.SettleSteps.{memory-stops}
use Rattle.dist_strong.proofs.claiming.put_strong.Goals as goal

pub returns-in_err-step-clause-err : goal.returns-in_err-step-clause-err
returns-in_err-step-clause-err g c =
    let old : DeskView = g.D.Desk.view c.args.desk.now in
    by-exit (λ (r : Result Claim WorkError). IfErr r (SettleStops old old c.args.asker.now c.args.window.now c.args.group.now)) c.from_residual.result NoMemory
    c.from_residual.ensures.1
    (memory-stops c.file_grows.ensures.begin old c.args.asker.now c.args.window.now c.args.group.now)

pub returns-in_err-put-clause-err : goal.returns-in_err-put-clause-err
returns-in_err-put-clause-err g c =
    let old : DeskView = g.D.Desk.view c.args.desk.now in
    let new : DeskView = g.D.Desk.view c.put.new.desk in
    let fits : c.args.asker.now.log.variables < 2 ^ 32 = omega (arith, c.keeps_invariant.ensures) in
    by-exit (λ (r : Result Claim WorkError). IfErr r (SettleStops old new c.args.asker.now c.args.window.now c.args.group.now))
    c.from_residual-in_err-put.result c.in_err-put.field-0.0 c.from_residual-in_err-put.ensures.1
    (strong-stops old new c.args.asker.now c.args.window.now c.args.group.now c.in_ok-step.step c.in_err-put.field-0.0 fits c.requires.fits c.requires.done
    c.in_ok-step.ensures.line c.in_ok-step.ensures.small c.in_err-put.ensures.err)

pub returns-clause-ok : goal.returns-clause-ok
returns-clause-ok g c =
    let old : DeskView = g.D.Desk.view c.args.desk.now in
    let new : DeskView = g.D.Desk.view c.put.new.desk in
    let fits : c.args.asker.now.log.variables < 2 ^ 32 = omega (arith, c.keeps_invariant.ensures) in
    strong-more old new c.args.asker.now c.put.new.self c.args.window.now c.args.group.now c.in_ok-step.step c.in_ok-step.claim fits c.requires.fits
    c.requires.done c.in_ok-step.ensures.line c.in_ok-step.ensures.small
    c.in_ok-step.ensures.claim c.put.ensures.rest c.in_ok-put.ensures.grew c.in_ok-put.ensures.ok
