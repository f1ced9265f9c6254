use Rattle.std.proofs.Common.{inl, Result, refl}
use Rattle.dist_outside.specs.DeskView.{DeskView}
use Rattle.dist_outside.specs.declared.trouble.WorkError.{WorkError}
use Rattle.dist_outside.specs.declared.trouble.WorkError.TheVariants.{NoMemory}
use Rattle.dist_inquiry.specs.StartLaws.{new_asker}
use Rattle.dist_repair.specs.declared.repair.Repair.{Repair}
use Rattle.dist_line_write.specs.ScriptLaws.{by-exit}
use Rattle.dist_repair_search.specs.SearchPrivate.{TellsAnswer}
use Rattle.dist_repair_search.proofs.StartLemmas.{tells-answer, tells-error}
use Rattle.dist_repair_search.proofs.file.answer_with.Goals as goal

pub returns-in_err-search : goal.returns-in_err-search
returns-in_err-search g c =
    let old : DeskView = g.D.Desk.view c.args.desk.now in
    by-exit (λ (r : Result Repair WorkError). TellsAnswer c.args.space.now c.args.numbers.now (new_asker c.args.set c.args.limit c.args.limits.now)
    c.args.name.now old old r) c.from_residual.result NoMemory c.from_residual.ensures.1 (inl (refl, refl))

pub run_search-requires-clause-fits : goal.run_search-requires-clause-fits
run_search-requires-clause-fits g c = c.requires.words c.in_ok-search.search.words c.in_ok-search.ensures.words

pub returns-in-Ok : goal.returns-in-Ok
returns-in-Ok g c = tells-answer c.args.space.now c.in_ok-search.search.repairing.space.now c.in_ok-search.ensures.space c.in_ok-search.search.words
    c.in_ok-search.search.notes c.run_search.new.search.notes c.args.numbers.now (new_asker c.args.set c.args.limit c.args.limits.now) c.args.name.now
    (g.D.Desk.view c.args.desk.now) (g.D.Desk.view c.run_search.new.desk) c.in_ok-search.ensures.words c.in_ok-search.ensures.notes c.answer_of.result
    c.answer_of.ensures c.in-Ok.ensures

pub returns-in-Err : goal.returns-in-Err
returns-in-Err g c = tells-error c.args.space.now c.in_ok-search.search.repairing.space.now c.in_ok-search.ensures.space c.in_ok-search.search.words
    c.in_ok-search.search.notes c.run_search.new.search.notes c.args.numbers.now (new_asker c.args.set c.args.limit c.args.limits.now) c.args.name.now
    (g.D.Desk.view c.args.desk.now) (g.D.Desk.view c.run_search.new.desk) c.in_ok-search.ensures.words c.in_ok-search.ensures.notes c.in-Err.error
    c.in-Err.ensures
