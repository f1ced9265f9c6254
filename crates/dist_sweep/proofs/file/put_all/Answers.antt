use Rattle.std.proofs.Common.{List, Result, IfErr}
use Rattle.dist_outside.specs.DeskView.{DeskView}
use Rattle.dist_outside.specs.declared.trouble.WorkError.{WorkError}
use Rattle.dist_cert.specs.declared.records.Claim.{Claim}
use Rattle.dist_line_write.specs.ScriptLaws.{by-exit, two-grow}
use Rattle.dist_sweep.specs.Sweeping.{SweepStops}
use Rattle.dist_sweep.proofs.SweepLines.{header-swept, sweep-end-stops, sweep-first, sweep-later, sweep-whole}
use Rattle.dist_sweep.proofs.file.put_all.Goals as goal

pub returns-in_err-put_header-clause-err : goal.returns-in_err-put_header-clause-err
returns-in_err-put_header-clause-err g c =
    let old : DeskView = g.D.Desk.view c.args.desk.now in
    let new : DeskView = g.D.Desk.view c.put_header.new.desk in
    by-exit (λ (r : Result (List Claim) WorkError). IfErr r
    (SweepStops g.C.Claimant.keeps c.args.header.now old new c.args.asker.now c.args.window.now c.args.claimant.now)) c.from_residual.result
    c.in_err-put_header.field-0.0 c.from_residual.ensures.1
    (sweep-first g.C.Claimant.keeps c.args.header.now old new c.args.asker.now c.args.window.now c.args.claimant.now c.in_err-put_header.field-0.0
    c.in_err-put_header.ensures.err)

pub returns-in_err-made-clause-err : goal.returns-in_err-made-clause-err
returns-in_err-made-clause-err g c =
    let old : DeskView = g.D.Desk.view c.args.desk.now in
    let mid : DeskView = g.D.Desk.view c.put_header.new.desk in
    let new : DeskView = g.D.Desk.view c.put_claims.new.desk in
    by-exit (λ (r : Result (List Claim) WorkError). IfErr r
    (SweepStops g.C.Claimant.keeps c.args.header.now old new c.args.asker.now c.args.window.now c.args.claimant.now))
    c.from_residual-in_err-made.result c.in_err-made.field-0.0 c.from_residual-in_err-made.ensures.1
    (sweep-later g.C.Claimant.keeps c.file_grows.ensures.twice c.args.header.now old mid new c.args.asker.now c.put_header.new.self c.args.window.now
    c.args.claimant.now c.in_err-made.field-0.0
    (header-swept g.C.Claimant.keeps c.args.header.now c.args.asker.now c.put_header.new.self c.args.window.now c.args.claimant.now
    c.put_header.ensures.rest c.in_ok-put_header.ensures.ok)
    c.in_ok-put_header.ensures.grew c.in_err-made.ensures.err)

pub returns-in_err-made-clause-grows : goal.returns-in_err-made-clause-grows
returns-in_err-made-clause-grows g c =
    two-grow c.file_grows.ensures.twice c.put_header.ensures.grows.0 c.put_claims.ensures.grows.0 (g.D.Desk.view c.args.desk.now)
    (g.D.Desk.view c.put_header.new.desk) (g.D.Desk.view c.put_claims.new.desk)
    c.put_header.ensures.grows.1 c.put_claims.ensures.grows.1

pub returns-in_err-put-clause-err : goal.returns-in_err-put-clause-err
returns-in_err-put-clause-err g c =
    let old : DeskView = g.D.Desk.view c.args.desk.now in
    let mid : DeskView = g.D.Desk.view c.put_header.new.desk in
    let late : DeskView = g.D.Desk.view c.put_claims.new.desk in
    let new : DeskView = g.D.Desk.view c.put.new.desk in
    by-exit (λ (r : Result (List Claim) WorkError). IfErr r
    (SweepStops g.C.Claimant.keeps c.args.header.now old new c.args.asker.now c.args.window.now c.args.claimant.now))
    c.from_residual-in_err-put.result c.in_err-put.field-0.0 c.from_residual-in_err-put.ensures.1
    (sweep-end-stops g.C.Claimant.keeps c.file_grows.ensures.twice c.args.header.now old mid late new c.args.asker.now c.put_header.new.self
    c.put_claims.new.asker
    c.args.window.now c.put_claims.new.window c.args.claimant.now c.put_claims.new.claimant c.in_ok-made.made c.in_err-put.field-0.0
    (header-swept g.C.Claimant.keeps c.args.header.now c.args.asker.now c.put_header.new.self c.args.window.now c.args.claimant.now
    c.put_header.ensures.rest c.in_ok-put_header.ensures.ok)
    c.in_ok-put_header.ensures.grew
    c.in_ok-made.ensures.ok c.in_ok-made.ensures.one_each c.in_err-put.ensures.err)

pub returns-in_err-put-clause-grows : goal.returns-in_err-put-clause-grows
returns-in_err-put-clause-grows g c =
    let twice = c.file_grows.ensures.twice in
    let both = two-grow twice c.put_header.ensures.grows.0 c.put_claims.ensures.grows.0 (g.D.Desk.view c.args.desk.now)
    (g.D.Desk.view c.put_header.new.desk)
    (g.D.Desk.view c.put_claims.new.desk)
    c.put_header.ensures.grows.1 c.put_claims.ensures.grows.1 in
    two-grow twice both.0 c.put.ensures.grows.0 (g.D.Desk.view c.args.desk.now) (g.D.Desk.view c.put_claims.new.desk) (g.D.Desk.view c.put.new.desk)
    both.1
    c.put.ensures.grows.1

pub returns-clause-ok : goal.returns-clause-ok
returns-clause-ok g c =
    let old : DeskView = g.D.Desk.view c.args.desk.now in
    let mid : DeskView = g.D.Desk.view c.put_header.new.desk in
    let late : DeskView = g.D.Desk.view c.put_claims.new.desk in
    let new : DeskView = g.D.Desk.view c.put.new.desk in
    sweep-whole g.C.Claimant.keeps c.file_grows.ensures.twice c.args.header.now old mid late new c.args.asker.now c.put_header.new.self
    c.put_claims.new.asker c.put.new.self
    c.args.window.now c.put_claims.new.window c.args.claimant.now c.put_claims.new.claimant c.in_ok-made.made
    (header-swept g.C.Claimant.keeps c.args.header.now c.args.asker.now c.put_header.new.self c.args.window.now c.args.claimant.now
    c.put_header.ensures.rest c.in_ok-put_header.ensures.ok)
    c.in_ok-put_header.ensures.grew
    c.in_ok-made.ensures.ok c.in_ok-made.ensures.one_each c.in_ok-put.ensures.grew c.in_ok-put.ensures.ok

pub returns-clause-grows : goal.returns-clause-grows
returns-clause-grows g c =
    let twice = c.file_grows.ensures.twice in
    let both = two-grow twice c.put_header.ensures.grows.0 c.put_claims.ensures.grows.0 (g.D.Desk.view c.args.desk.now)
    (g.D.Desk.view c.put_header.new.desk)
    (g.D.Desk.view c.put_claims.new.desk)
    c.put_header.ensures.grows.1 c.put_claims.ensures.grows.1 in
    two-grow twice both.0 c.put.ensures.grows.0 (g.D.Desk.view c.args.desk.now) (g.D.Desk.view c.put_claims.new.desk) (g.D.Desk.view c.put.new.desk)
    both.1
    c.put.ensures.grows.1
