use Rattle.std.proofs.lemmas.Result.{on_ok_weaker}
use Rattle.dist_outside.specs.DeskView.{DeskView}
use Rattle.dist_repair_search.proofs.SearchLemmas.{settles, stops-by}
use Rattle.dist_repair_search.proofs.search.RepairSearchInquiring.settle.Goals as goal

pub returns-clause-ok : goal.returns-clause-ok
returns-clause-ok g c =
    let s = c.args.self.now.repairing.space.now in
    on_ok_weaker c.ask_all.result
    (settles s c.args.self.now.words c.args.self.now.notes (g.D.Desk.view c.args.desk.now) (g.D.Desk.view c.ask_all.new.desk) c.args.inquirer.now
    (c.questions_decide.ensures.answer s) c.ask_all.new.notes c.ask_all.new.inquirer) c.ask_all.ensures.ok

pub returns-clause-err : goal.returns-clause-err
returns-clause-err g c =
    let s = c.args.self.now.repairing.space.now in
    let old : DeskView = g.D.Desk.view c.args.desk.now in
    let new : DeskView = g.D.Desk.view c.ask_all.new.desk in
    stops-by s c.args.self.now.words c.args.self.now.notes old new c.args.inquirer.now c.ask_all.result c.ask_all.ensures.err
