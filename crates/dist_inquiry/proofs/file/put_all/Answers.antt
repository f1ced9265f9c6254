use Rattle.std.proofs.Common.{◌≡◌, ℕ, List, Result, IfErr}
use Rattle.dist_outside.specs.DeskView.{DeskView}
use Rattle.dist_outside.specs.declared.trouble.WorkError.{WorkError}
use Rattle.dist_cert.specs.FirstLines.{first_line}
use Rattle.dist_cert.specs.declared.records.CertRecord.TheVariants.{End}
use Rattle.dist_line_write.specs.Script.{PutStops}
use Rattle.dist_line_write.specs.ScriptLaws.{by-exit, two-grow}
use Rattle.dist_inquiry.specs.Inquiring.{InquiryStops}
use Rattle.dist_inquiry.proofs.Stopped.{all-end-stops, all-first-stops, all-settle-stops, all-whole, if-err, on-both}
use Rattle.dist_inquiry.proofs.file.put_all.Goals as goal

pub returns-in_err-put_first-clause-err : goal.returns-in_err-put_first-clause-err
returns-in_err-put_first-clause-err g c =
    let old : DeskView = g.D.Desk.view c.args.desk.now in
    let new : DeskView = g.D.Desk.view c.put_first.new.desk in
    let file = g.S.Inquiring.file c.args.search.now in
    let Keeps = g.S.Inquiring.keeps c.args.search.now in
    let asks = g.S.Inquiring.asks c.args.search.now in
    by-exit (λ (r : Result (Unit {0}) WorkError). IfErr r (λ error. (numbers : List ℕ) → c.args.line.now ≡ first_line file.front numbers
    → InquiryStops file Keeps asks numbers old new c.args.inquirer.now error)) c.from_residual.result c.in_err-put_first.field-0.0 c.from_residual.ensures.1
    (all-first-stops file Keeps asks c.args.inquirer.now c.args.line.now old new c.in_err-put_first.field-0.0 c.in_err-put_first.ensures.err)

pub returns-in_err-settle-clause-err : goal.returns-in_err-settle-clause-err
returns-in_err-settle-clause-err g c =
    let old : DeskView = g.D.Desk.view c.args.desk.now in
    let mid : DeskView = g.D.Desk.view c.put_first.new.desk in
    let new : DeskView = g.D.Desk.view c.settle.new.desk in
    let file = g.S.Inquiring.file c.args.search.now in
    let Keeps = g.S.Inquiring.keeps c.args.search.now in
    let asks = g.S.Inquiring.asks c.args.search.now in
    by-exit (λ (r : Result (Unit {0}) WorkError). IfErr r (λ error. (numbers : List ℕ) → c.args.line.now ≡ first_line file.front numbers
    → InquiryStops file Keeps asks numbers old new c.args.inquirer.now error)) c.from_residual-in_err-settle.result c.in_err-settle.field-0.0
    c.from_residual-in_err-settle.ensures.1
    (all-settle-stops c.file_grows.ensures.twice file Keeps asks c.args.inquirer.now c.put_first.new.self c.args.line.now old mid new
    c.in_err-settle.field-0.0 c.in_ok-put_first.ensures.grew c.put_first.ensures.rest c.in_ok-put_first.ensures.ok c.in_err-settle.ensures.err)

pub returns-in_err-settle-clause-grows : goal.returns-in_err-settle-clause-grows
returns-in_err-settle-clause-grows g c =
    two-grow c.file_grows.ensures.twice c.put_first.ensures.grows.0 c.settle.ensures.grows.0 (g.D.Desk.view c.args.desk.now)
    (g.D.Desk.view c.put_first.new.desk) (g.D.Desk.view c.settle.new.desk) c.put_first.ensures.grows.1 c.settle.ensures.grows.1

pub returns-clause-ok : goal.returns-clause-ok
returns-clause-ok g c =
    let old : DeskView = g.D.Desk.view c.args.desk.now in
    let mid : DeskView = g.D.Desk.view c.put_first.new.desk in
    let late : DeskView = g.D.Desk.view c.settle.new.desk in
    let new : DeskView = g.D.Desk.view c.put.new.desk in
    let file = g.S.Inquiring.file c.args.search.now in
    on-both c.put.result
    (λ last done. all-whole c.forms_are_clear.ensures c.file_grows.ensures.twice file c.requires.front (g.S.Inquiring.keeps c.args.search.now)
    (g.S.Inquiring.asks c.args.search.now) (g.S.Inquiring.told c.args.search.now c.settle.new.self) c.args.inquirer.now c.put_first.new.self
    c.settle.new.inquirer c.put.new.self
    c.args.line.now old mid late new
    c.in_ok-put_first.ensures.grew c.put_first.ensures.rest c.in_ok-put_first.ensures.ok c.in_ok-settle.ensures.ok last done)
    c.put.ensures.grew c.put.ensures.ok

pub returns-clause-err : goal.returns-clause-err
returns-clause-err g c =
    let old : DeskView = g.D.Desk.view c.args.desk.now in
    let mid : DeskView = g.D.Desk.view c.put_first.new.desk in
    let late : DeskView = g.D.Desk.view c.settle.new.desk in
    let new : DeskView = g.D.Desk.view c.put.new.desk in
    let file = g.S.Inquiring.file c.args.search.now in
    let Keeps = g.S.Inquiring.keeps c.args.search.now in
    let asks = g.S.Inquiring.asks c.args.search.now in
    if-err (PutStops c.settle.new.inquirer.writer End late new) (λ error. (numbers : List ℕ) → c.args.line.now ≡ first_line file.front numbers
    → InquiryStops file Keeps asks numbers old new c.args.inquirer.now error) c.put.result
    (λ error stops. all-end-stops c.file_grows.ensures.twice file Keeps asks (g.S.Inquiring.told c.args.search.now c.settle.new.self) c.args.inquirer.now
    c.put_first.new.self c.settle.new.inquirer c.args.line.now old mid late new error c.in_ok-put_first.ensures.grew c.put_first.ensures.rest
    c.in_ok-put_first.ensures.ok c.in_ok-settle.ensures.ok stops)
    c.put.ensures.err

pub returns-clause-grows : goal.returns-clause-grows
returns-clause-grows g c =
    let twice = c.file_grows.ensures.twice in
    let both = two-grow twice c.put_first.ensures.grows.0 c.settle.ensures.grows.0 (g.D.Desk.view c.args.desk.now)
    (g.D.Desk.view c.put_first.new.desk) (g.D.Desk.view c.settle.new.desk) c.put_first.ensures.grows.1 c.settle.ensures.grows.1 in
    two-grow twice both.0 c.put.ensures.grows.0 (g.D.Desk.view c.args.desk.now) (g.D.Desk.view c.settle.new.desk) (g.D.Desk.view c.put.new.desk)
    both.1 c.put.ensures.grows.1
