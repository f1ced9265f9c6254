use Rattle.std.proofs.Common.{Ok, Err, subst, sym}
use Rattle.dist_commands.specs.DuePrivate.{WritingStops}
use Rattle.dist_commands.specs.Explain.{explain_writing}
use Rattle.dist_commands.specs.declared.refusal.Refusal.{Refusal}
use Rattle.dist_commands.proofs.ExplainLemmas.{explain_answered, explanation_is_cut, of_explanation}
use Rattle.dist_commands.proofs.Writings.{made_kept, untold, writer_refused, written}
use Rattle.dist_commands.proofs.explain_command.write_explanation.Goals as goal

pub returns-in-Ok-told-clause-kept : goal.returns-in-Ok-told-clause-kept
returns-in-Ok-told-clause-kept g c =
    let r = c.args.repository.now in
    made_kept (explain_writing c.args.limits.now c.args.words.now.limit r c.args.number) (of_explanation r c.args.limits.now) c.args.words.now.cert.now
    (g.D.Desk.view c.args.desk.now) (g.D.Desk.view c.explain.new.desk) c.in-Ok.explained c.in-Ok.ensures.first

pub returns-in-Ok-told-clause-written : goal.returns-in-Ok-told-clause-written
returns-in-Ok-told-clause-written g c =
    let words = c.args.words.now in
    let r = c.args.repository.now in
    written (explain_writing c.args.limits.now words.limit r c.args.number) (of_explanation r c.args.limits.now) words.cert.now
    (g.D.Desk.view c.args.desk.now) (g.D.Desk.view c.explain.new.desk) c.in-Ok.explained c.in-Ok-told.answer.status
    c.in-Ok-told.answer.text.items
    (explain_answered r c.args.number words.limit c.args.limits.now words.cert.now (g.D.Desk.view c.args.desk.now) (g.D.Desk.view c.explain.new.desk)
    (Ok c.in-Ok.explained) c.in-Ok.ensures.answers)
    c.in-Ok-told.ensures.status c.in-Ok-told.ensures.text

pub returns-in-Err-told-clause-stops : goal.returns-in-Err-told-clause-stops
returns-in-Err-told-clause-stops g c =
    let words = c.args.words.now in
    let r = c.args.repository.now in
    untold (explain_writing c.args.limits.now words.limit r c.args.number) (of_explanation r c.args.limits.now) words.cert.now
    (g.D.Desk.view c.args.desk.now) (g.D.Desk.view c.explain.new.desk)
    (explanation_is_cut r c.args.number words.limit c.args.limits.now words.cert.now (g.D.Desk.view c.args.desk.now) (g.D.Desk.view c.explain.new.desk))
    c.in-Ok.explained
    (explain_answered r c.args.number words.limit c.args.limits.now words.cert.now (g.D.Desk.view c.args.desk.now) (g.D.Desk.view c.explain.new.desk)
    (Ok c.in-Ok.explained) c.in-Ok.ensures.answers)

pub returns-in-Err-clause-stops : goal.returns-in-Err-clause-stops
returns-in-Err-clause-stops g c =
    let words = c.args.words.now in
    let r = c.args.repository.now in
    subst (λ (why : Refusal). WritingStops (explain_writing c.args.limits.now words.limit r c.args.number) words.cert.now
    (g.D.Desk.view c.args.desk.now) (g.D.Desk.view c.explain.new.desk) why)
    (sym c.refusal_of.ensures)
    (writer_refused (explain_writing c.args.limits.now words.limit r c.args.number) (of_explanation r c.args.limits.now) words.cert.now
    (g.D.Desk.view c.args.desk.now) (g.D.Desk.view c.explain.new.desk) c.in-Err.error c.in-Err.ensures.first
    (explain_answered r c.args.number words.limit c.args.limits.now words.cert.now (g.D.Desk.view c.args.desk.now) (g.D.Desk.view c.explain.new.desk)
    (Err c.in-Err.error) c.in-Err.ensures.answers))
