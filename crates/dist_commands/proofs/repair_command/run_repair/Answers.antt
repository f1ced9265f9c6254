use Rattle.dist_words.specs.CommandLine.{Repair}
use Rattle.dist_commands.specs.PackagesStage.{PackagesStage}
use Rattle.dist_commands.specs.Stages.{Ends}
use Rattle.dist_commands.proofs.Due.{due_stops, err_more, ok_more}
use Rattle.dist_commands.proofs.RepairLemmas.{repair_answers, repair_stops, repair_unread}
use Rattle.dist_commands.proofs.repair_command.run_repair.Goals as goal

pub repair_named-requires-clause-flat : goal.repair_named-requires-clause-flat
repair_named-requires-clause-flat g c = c.in-Ok.ensures.goes.2.flat

pub returns-in-Ok-clause-answers : goal.returns-in-Ok-clause-answers
returns-in-Ok-clause-answers g c =
    let words = c.args.words.now in
    ok_more c.repair_named.result _ _ (λ answer. repair_answers c.args.limits.now words.packages.now words.cert.now words.named.now words.most words.limit
    (g.D.Desk.view c.args.desk.now) (g.D.Desk.view c.read_newest.new.desk) (g.D.Desk.view c.repair_named.new.desk) c.in-Ok.newest
    c.in-Ok.ensures.only_reads c.in-Ok.ensures.goes answer.status answer.text.items)
    c.repair_named.ensures.answers

pub returns-in-Ok-clause-stops : goal.returns-in-Ok-clause-stops
returns-in-Ok-clause-stops g c =
    let words = c.args.words.now in
    err_more c.repair_named.result _ _ (λ why. repair_stops c.args.limits.now words.packages.now words.cert.now words.named.now words.most words.limit
    (g.D.Desk.view c.args.desk.now) (g.D.Desk.view c.read_newest.new.desk) (g.D.Desk.view c.repair_named.new.desk) c.in-Ok.newest
    c.in-Ok.ensures.only_reads c.in-Ok.ensures.goes why)
    c.repair_named.ensures.stops

pub returns-in-Err-clause-stops : goal.returns-in-Err-clause-stops
returns-in-Err-clause-stops g c =
    let words = c.args.words.now in
    due_stops (Repair words.packages.now words.cert.now words.named.now words.most words.limit) c.args.limits.now
    (λ ending. PackagesStage (g.D.Desk.view c.args.desk.now).files c.args.limits.now words.packages.now (Ends ending))
    (g.D.Desk.view c.args.desk.now) (g.D.Desk.view c.read_newest.new.desk) c.in-Err.refusal
    (repair_unread c.args.limits.now words.packages.now words.cert.now words.named.now words.most words.limit (g.D.Desk.view c.args.desk.now)
    (g.D.Desk.view c.read_newest.new.desk))
    (λ apart. apart) c.in-Err.ensures.only_reads c.in-Err.ensures.due
