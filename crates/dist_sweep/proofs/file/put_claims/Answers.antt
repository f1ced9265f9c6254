use Rattle.std.proofs.Common.{◌∙◌, [], ◌∷◌, ◌+◌, List, Result, IfErr, ap, arith, length, length-append, subst, sym}
use Rattle.dist_outside.specs.DeskView.{DeskView}
use Rattle.dist_outside.specs.Files.{IsWriting}
use Rattle.dist_outside.specs.declared.trouble.WorkError.{WorkError}
use Rattle.dist_outside.specs.declared.trouble.WorkError.TheVariants.{NoMemory}
use Rattle.dist_cert.specs.declared.records.Claim.{Claim}
use Rattle.dist_line_write.specs.ScriptLaws.{by-exit, two-grow}
use Rattle.dist_sweep.specs.Sweeping.{ClaimsStop}
use Rattle.dist_sweep.proofs.SweepLines.{claims-memory, one-more, one-stops}
use Rattle.dist_sweep.proofs.file.put_claims.Goals as goal

pub returns-in_err-claim-clause-err : goal.returns-in_err-claim-clause-err
returns-in_err-claim-clause-err g c =
    let old : DeskView = g.D.Desk.view c.args.desk.now in
    let mid : DeskView = g.D.Desk.view c.loop-place.desk in
    let new : DeskView = g.D.Desk.view c.settle.new.desk in
    let Keeps = g.C.Claimant.keeps in
    by-exit (λ (r : Result (List Claim) WorkError).
    IfErr r (ClaimsStop Keeps c.args.packages old new c.args.asker.now c.args.window.now c.args.claimant.now))
    c.from_residual.result c.in_err-claim.field-0.0 c.from_residual.ensures.1
    (one-stops Keeps c.file_grows.ensures.twice c.args.packages old mid new c.args.asker.now c.loop-place.asker c.args.window.now c.loop-place.window
    c.args.claimant.now c.loop-place.claimant c.loop-place.made (c.loop-place.place + 1) c.in_err-claim.field-0.0
    c.loop-place.invariant.more c.in_err-claim.ensures.err (omega (arith, c.loop-place.invariant.count)) (omega arith))

pub returns-in_err-claim-clause-grows : goal.returns-in_err-claim-clause-grows
returns-in_err-claim-clause-grows g c =
    two-grow c.file_grows.ensures.twice c.loop-place.invariant.grows.0 c.settle.ensures.grows.0 (g.D.Desk.view c.args.desk.now)
    (g.D.Desk.view c.loop-place.desk) (g.D.Desk.view c.settle.new.desk)
    c.loop-place.invariant.grows.1 c.settle.ensures.grows.1

pub returns-in_err-push-clause-err : goal.returns-in_err-push-clause-err
returns-in_err-push-clause-err g c =
    let old : DeskView = g.D.Desk.view c.args.desk.now in
    let mid : DeskView = g.D.Desk.view c.loop-place.desk in
    let new : DeskView = g.D.Desk.view c.settle.new.desk in
    let Keeps = g.C.Claimant.keeps in
    by-exit (λ (r : Result (List Claim) WorkError).
    IfErr r (ClaimsStop Keeps c.args.packages old new c.args.asker.now c.args.window.now c.args.claimant.now))
    c.from_residual-in_err-push.result NoMemory c.from_residual-in_err-push.ensures.1
    (claims-memory Keeps c.file_grows.ensures.begin c.file_grows.ensures.twice c.args.packages old mid new c.args.asker.now c.loop-place.asker
    c.settle.new.asker c.args.window.now c.loop-place.window c.settle.new.window c.args.claimant.now c.loop-place.claimant c.settle.new.self
    c.loop-place.made c.in_ok-claim.claim (c.loop-place.place + 1) c.loop-place.invariant.more c.in_ok-claim.ensures.ok
    (omega (arith, c.loop-place.invariant.count)) (omega arith))

pub returns-in_err-push-clause-grows : goal.returns-in_err-push-clause-grows
returns-in_err-push-clause-grows g c =
    two-grow c.file_grows.ensures.twice c.loop-place.invariant.grows.0 c.settle.ensures.grows.0 (g.D.Desk.view c.args.desk.now)
    (g.D.Desk.view c.loop-place.desk) (g.D.Desk.view c.settle.new.desk)
    c.loop-place.invariant.grows.1 c.settle.ensures.grows.1

pub loop-place-preserved : goal.loop-place-preserved
loop-place-preserved g c =
    let old : DeskView = g.D.Desk.view c.args.desk.now in
    let mid : DeskView = g.D.Desk.view c.loop-place.desk in
    let new : DeskView = g.D.Desk.view c.settle.new.desk in
    let Keeps = g.C.Claimant.keeps in
    let variables = c.in_ok-claim.ensures.suits.variables ∙ c.in_ok-claim.ensures.variables ∙ c.loop-place.invariant.variables in
    record {
      writing = subst IsWriting (sym c.settle.ensures.grows.1.mode_stays) c.loop-place.invariant.writing;
      limit = c.in_ok-claim.ensures.suits.limit;
      same = c.in_ok-claim.ensures.suits.variables;
      variables = c.in_ok-claim.ensures.variables ∙ c.loop-place.invariant.variables;
      fits = λ p from upto. c.in_ok-claim.ensures.still (c.args.window.now.variables) p (c.loop-place.invariant.fits p from upto);
      count = omega (arith, ap length c.in_ok-push.ensures.ok, length-append c.loop-place.made (c.in_ok-claim.claim ∷ []), c.loop-place.invariant.count);
      more = one-more Keeps c.file_grows.ensures.twice c.args.packages old mid new c.args.asker.now c.loop-place.asker c.settle.new.asker c.args.window.now
          c.loop-place.window c.settle.new.window c.args.claimant.now c.loop-place.claimant c.settle.new.self c.loop-place.made c.push.new.self
          c.in_ok-claim.claim (c.loop-place.place + 1) c.loop-place.invariant.more c.in_ok-claim.ensures.ok (omega (arith, c.loop-place.invariant.count))
          (omega arith) c.in_ok-push.ensures.ok;
      grows = two-grow c.file_grows.ensures.twice c.loop-place.invariant.grows.0 c.settle.ensures.grows.0 old mid new c.loop-place.invariant.grows.1
          c.settle.ensures.grows.1;
    }
