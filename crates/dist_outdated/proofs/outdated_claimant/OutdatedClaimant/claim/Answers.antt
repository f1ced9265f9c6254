use Rattle.std.proofs.Common.{Result, IfErr, arith, refl}
use Rattle.dist_outside.specs.DeskView.{DeskView}
use Rattle.dist_outside.specs.declared.trouble.WorkError.{WorkError}
use Rattle.dist_cert.specs.declared.records.CertRecord.TheVariants.{Alive}
use Rattle.dist_cert.specs.declared.records.Claim.{Claim}
use Rattle.dist_cert.specs.declared.records.Claim.TheVariants as claims
use Rattle.dist_line_write.specs.Asking.{AskerView}
use Rattle.dist_line_write.specs.ScriptLaws.{by-exit}
use Rattle.dist_sweep.specs.Claiming.{ClaimStops}
use Rattle.dist_sweep.specs.Window.{WindowView}
use Rattle.dist_outdated.specs.OutdatedPrivate.{KeepsOutdated, OutdatedView}
use Rattle.dist_sweep.specs.AskedLaws.{put-claim, put-stops}
use Rattle.dist_outdated.proofs.ClaimLines.{alive-kind}
use Rattle.dist_outdated.proofs.OutdatedSteps.{alive-puts, KeptBy, may-stand, MayClaimOn}
use Rattle.dist_outdated.proofs.outdated_claimant.OutdatedClaimant.claim.Goals as goal

pub returns-in_err-put-in-Some-clause-err : goal.returns-in_err-put-in-Some-clause-err
returns-in_err-put-in-Some-clause-err g c =
    let old : DeskView = g.D.Desk.view c.args.desk.now in
    let new : DeskView = g.D.Desk.view c.put.new.desk in
    let a : AskerView = c.args.asker.now in
    let w : WindowView = c.args.window.now in
    let self : OutdatedView = c.args.self.now in
    by-exit (λ (r : Result Claim WorkError). IfErr r (ClaimStops KeepsOutdated c.args.package old new a w self))
    c.from_residual.result c.in_err-put-in-Some.field-0.0 c.from_residual.ensures.1
    (λ s before may keeps. put-stops (MayClaimOn a w self c.args.package) (KeptBy self) old new a w (Alive c.args.package c.in-Some.number)
    c.in_err-put-in-Some.field-0.0 (may-stand a w self c.args.package)
    (alive-puts a w self c.args.package c.in-Some.number (omega arith) (omega arith) c.requires.suits.from_one c.requires.fits.upto c.in-Some.ensures)
    c.in_err-put-in-Some.ensures.err s before (record { may = may; keeps = keeps }))

pub returns-in_ok-put-in-Some-clause-ok : goal.returns-in_ok-put-in-Some-clause-ok
returns-in_ok-put-in-Some-clause-ok g c =
    let old : DeskView = g.D.Desk.view c.args.desk.now in
    let new : DeskView = g.D.Desk.view c.put.new.desk in
    let a : AskerView = c.args.asker.now in
    let w : WindowView = c.args.window.now in
    let self : OutdatedView = c.args.self.now in
    λ s before may keeps. put-claim (MayClaimOn a w self c.args.package) (KeptBy self) old new a c.put.new.self w (Alive c.args.package c.in-Some.number)
    claims.Alive (may-stand a w self c.args.package)
    (alive-puts a w self c.args.package c.in-Some.number (omega arith) (omega arith) c.requires.suits.from_one c.requires.fits.upto c.in-Some.ensures)
    (alive-kind c.args.package c.in-Some.number) refl c.put.ensures.rest c.in_ok-put-in-Some.ensures.grew c.in_ok-put-in-Some.ensures.ok
    s before (record { may = may; keeps = keeps })
