use Rattle.dist_commands.proofs.Due.{err_more, ok_more}
use Rattle.dist_commands.proofs.ExplainLemmas.{explain_answers, explain_stops}
use Rattle.dist_commands.proofs.explain_command.run_explain.Goals as goal

pub returns-in-Ok-clause-answers : goal.returns-in-Ok-clause-answers
returns-in-Ok-clause-answers g c =
    let words = c.args.words.now in
    ok_more c.explain_named-answer.result _ _ (λ answer. explain_answers c.args.limits.now words.packages.now words.cert.now words.named.now words.limit
    (g.D.Desk.view c.args.desk.now) (g.D.Desk.view c.read_repository.new.desk) (g.D.Desk.view c.explain_named-answer.new.desk) c.in-Ok.repository
    c.in-Ok.ensures.only_reads c.in-Ok.ensures.goes answer.status answer.text.items)
    c.explain_named-answer.ensures.answers

pub returns-in-Ok-clause-stops : goal.returns-in-Ok-clause-stops
returns-in-Ok-clause-stops g c =
    let words = c.args.words.now in
    err_more c.explain_named-answer.result _ _ (λ why. explain_stops c.args.limits.now words.packages.now words.cert.now words.named.now words.limit
    (g.D.Desk.view c.args.desk.now) (g.D.Desk.view c.read_repository.new.desk) (g.D.Desk.view c.explain_named-answer.new.desk) c.in-Ok.repository
    c.in-Ok.ensures.only_reads c.in-Ok.ensures.goes why)
    c.explain_named-answer.ensures.stops
