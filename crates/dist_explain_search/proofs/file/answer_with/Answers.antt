use Rattle.dist_inquiry.specs.StartLaws.{new_asker}
use Rattle.dist_explain_search.proofs.ExplainedLemmas.{tells-answer, tells-error}
use Rattle.dist_explain_search.proofs.file.answer_with.Goals as goal

pub returns-in-Ok : goal.returns-in-Ok
returns-in-Ok g c = tells-answer c.args.repo.now c.new_search-search.result.explaining.repo.now c.new_search-search.ensures.repository c.args.asked
    c.new_search-search.result.asked c.new_search-search.ensures.asked c.new_search-search.result.notes c.run_search.new.search.notes c.args.numbers.now
    (new_asker c.args.set c.args.limit c.args.limits.now) c.args.name.now (g.D.Desk.view c.args.desk.now) (g.D.Desk.view c.run_search.new.desk)
    c.new_search-search.ensures.notes c.answer_of.result c.answer_of.ensures c.in-Ok.ensures

pub returns-in-Err : goal.returns-in-Err
returns-in-Err g c = tells-error c.args.repo.now c.new_search-search.result.explaining.repo.now c.new_search-search.ensures.repository c.args.asked
    c.new_search-search.result.asked c.new_search-search.ensures.asked c.new_search-search.result.notes c.run_search.new.search.notes c.args.numbers.now
    (new_asker c.args.set c.args.limit c.args.limits.now) c.args.name.now (g.D.Desk.view c.args.desk.now) (g.D.Desk.view c.run_search.new.desk)
    c.new_search-search.ensures.notes c.in-Err.error c.in-Err.ensures
