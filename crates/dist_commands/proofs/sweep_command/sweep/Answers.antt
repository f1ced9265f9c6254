use Rattle.std.proofs.Common.{Ok, Err, subst, sym}
use Rattle.dist_commands.specs.DuePrivate.{WritingStops}
use Rattle.dist_commands.specs.Sweeps.{sweep_writing}
use Rattle.dist_commands.specs.declared.refusal.Refusal.{Refusal}
use Rattle.dist_commands.proofs.Sweeping.{of_inputs, sweep_answered, told_report, whole_is_cut}
use Rattle.dist_commands.proofs.Writings.{untold, writer_refused, written}
use Rattle.dist_commands.proofs.sweep_command.sweep.Goals as goal

pub returns-in-Ok-told-clause-swept : goal.returns-in-Ok-told-clause-swept
returns-in-Ok-told-clause-swept g c =
    let words = c.args.words.now in
    let r = c.args.repository.now in
    written (sweep_writing c.args.limits.now words.kind words.essential words.limit r) (of_inputs r words.kind words.essential c.args.limits.now)
    words.cert.now (g.D.Desk.view c.args.desk.now) (g.D.Desk.view c.write_certificate.new.desk)
    c.in-Ok.claims c.in-Ok-told.answer.status c.in-Ok-told.answer.text.items
    (sweep_answered r words.kind words.essential words.limit c.args.limits.now words.cert.now (g.D.Desk.view c.args.desk.now)
    (g.D.Desk.view c.write_certificate.new.desk) (Ok c.in-Ok.claims) c.in-Ok.ensures.answers)
    c.in-Ok-told.ensures.status
    (told_report r c.told_line.result words.kind words.limit c.in-Ok.claims c.in-Ok-told.answer.text.items c.told_line.ensures.kind
    c.told_line.ensures.limit c.in-Ok-told.ensures.text)

pub returns-in-Err-told-clause-stops : goal.returns-in-Err-told-clause-stops
returns-in-Err-told-clause-stops g c =
    let words = c.args.words.now in
    let r = c.args.repository.now in
    untold (sweep_writing c.args.limits.now words.kind words.essential words.limit r) (of_inputs r words.kind words.essential c.args.limits.now)
    words.cert.now (g.D.Desk.view c.args.desk.now) (g.D.Desk.view c.write_certificate.new.desk)
    (whole_is_cut r words.kind words.essential words.limit c.args.limits.now words.cert.now (g.D.Desk.view c.args.desk.now)
    (g.D.Desk.view c.write_certificate.new.desk))
    c.in-Ok.claims
    (sweep_answered r words.kind words.essential words.limit c.args.limits.now words.cert.now (g.D.Desk.view c.args.desk.now)
    (g.D.Desk.view c.write_certificate.new.desk) (Ok c.in-Ok.claims) c.in-Ok.ensures.answers)

pub returns-in-Err-clause-stops : goal.returns-in-Err-clause-stops
returns-in-Err-clause-stops g c =
    let words = c.args.words.now in
    let r = c.args.repository.now in
    subst (λ (why : Refusal). WritingStops (sweep_writing c.args.limits.now words.kind words.essential words.limit r) words.cert.now
    (g.D.Desk.view c.args.desk.now) (g.D.Desk.view c.write_certificate.new.desk) why)
    (sym c.refusal_of.ensures)
    (writer_refused (sweep_writing c.args.limits.now words.kind words.essential words.limit r) (of_inputs r words.kind words.essential c.args.limits.now)
    words.cert.now (g.D.Desk.view c.args.desk.now) (g.D.Desk.view c.write_certificate.new.desk)
    c.in-Err.error c.in-Err.ensures.first
    (sweep_answered r words.kind words.essential words.limit c.args.limits.now words.cert.now (g.D.Desk.view c.args.desk.now)
    (g.D.Desk.view c.write_certificate.new.desk) (Err c.in-Err.error) c.in-Err.ensures.answers))
