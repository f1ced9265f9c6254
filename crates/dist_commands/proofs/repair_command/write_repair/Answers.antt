use Rattle.std.proofs.Common.{Ok, Err, refl, subst, sym}
use Rattle.dist_repair_search.specs.SearchAnswers.{header_with}
use Rattle.dist_commands.specs.DuePrivate.{WritingStops}
use Rattle.dist_commands.specs.Repair.{repair_writing}
use Rattle.dist_commands.specs.declared.refusal.Refusal.{Refusal}
use Rattle.dist_commands.proofs.RepairLemmas.{of_repair, repair_answered, repair_is_cut}
use Rattle.dist_commands.proofs.Writings.{made_kept, untold, writer_refused, written}
use Rattle.dist_commands.proofs.repair_command.write_repair.Goals as goal

pub returns-in-Ok-told-clause-kept : goal.returns-in-Ok-told-clause-kept
returns-in-Ok-told-clause-kept g c =
    let s = c.args.space.now in
    made_kept (repair_writing c.args.limits.now c.args.words.now.most c.args.words.now.limit s c.args.number)
    (of_repair s c.args.words.now.most c.args.limits.now) c.args.words.now.cert.now
    (g.D.Desk.view c.args.desk.now) (g.D.Desk.view c.repair.new.desk) c.in-Ok.made c.in-Ok.ensures.first

pub returns-in-Ok-told-clause-written : goal.returns-in-Ok-told-clause-written
returns-in-Ok-told-clause-written g c =
    let words = c.args.words.now in
    let s = c.args.space.now in
    written (repair_writing c.args.limits.now words.most words.limit s c.args.number) (of_repair s words.most c.args.limits.now) words.cert.now
    (g.D.Desk.view c.args.desk.now) (g.D.Desk.view c.repair.new.desk) c.in-Ok.made c.in-Ok-told.answer.status
    c.in-Ok-told.answer.text.items
    (repair_answered s c.args.number words.most words.limit c.args.limits.now words.cert.now (g.D.Desk.view c.args.desk.now) (g.D.Desk.view c.repair.new.desk)
    (Ok c.in-Ok.made) c.in-Ok.ensures.answers)
    c.in-Ok-told.ensures.status c.in-Ok-told.ensures.text

pub returns-in-Err-told-clause-stops : goal.returns-in-Err-told-clause-stops
returns-in-Err-told-clause-stops g c =
    let words = c.args.words.now in
    let s = c.args.space.now in
    untold (repair_writing c.args.limits.now words.most words.limit s c.args.number) (of_repair s words.most c.args.limits.now) words.cert.now
    (g.D.Desk.view c.args.desk.now) (g.D.Desk.view c.repair.new.desk)
    (repair_is_cut s c.args.number words.most words.limit c.args.limits.now words.cert.now (g.D.Desk.view c.args.desk.now) (g.D.Desk.view c.repair.new.desk))
    c.in-Ok.made
    (repair_answered s c.args.number words.most words.limit c.args.limits.now words.cert.now (g.D.Desk.view c.args.desk.now) (g.D.Desk.view c.repair.new.desk)
    (Ok c.in-Ok.made) c.in-Ok.ensures.answers)

pub returns-in-Err-clause-stops : goal.returns-in-Err-clause-stops
returns-in-Err-clause-stops g c =
    let words = c.args.words.now in
    let s = c.args.space.now in
    subst (λ (why : Refusal). WritingStops (repair_writing c.args.limits.now words.most words.limit s c.args.number) words.cert.now
    (g.D.Desk.view c.args.desk.now) (g.D.Desk.view c.repair.new.desk) why)
    (sym c.refusal_of.ensures)
    (writer_refused (repair_writing c.args.limits.now words.most words.limit s c.args.number) (of_repair s words.most c.args.limits.now) words.cert.now
    (g.D.Desk.view c.args.desk.now) (g.D.Desk.view c.repair.new.desk) c.in-Err.error c.in-Err.ensures.first
    (repair_answered s c.args.number words.most words.limit c.args.limits.now words.cert.now (g.D.Desk.view c.args.desk.now) (g.D.Desk.view c.repair.new.desk)
    (Err c.in-Err.error) c.in-Err.ensures.answers))

pub tell_repair-told-requires : goal.tell_repair-told-requires
tell_repair-told-requires g c = (header_with c.args.words.now.limit c.args.number c.args.words.now.most, refl, c.in-Ok.ensures.says)
