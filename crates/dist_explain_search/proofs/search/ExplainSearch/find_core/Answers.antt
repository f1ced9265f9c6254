use Rattle.dist_outside.specs.DeskView.{DeskView}
use Rattle.dist_outside.specs.declared.trouble.WorkError.TheVariants.{NoMemory}
use Rattle.dist_explain.specs.declared.asked.Asked.{Asked}
use Rattle.dist_explain_search.specs.SearchPrivate.{HasJust}
use Rattle.dist_explain_search.proofs.GoingLemmas.{exit-stops, stops-memory}
use Rattle.dist_explain_search.proofs.search.ExplainSearch.find_core.Goals as goal

pub returns-in_err-short-clause-err : goal.returns-in_err-short-clause-err
returns-in_err-short-clause-err g c =
    let asked : Asked = c.args.self.now.asked in
    let d : DeskView = g.D.Desk.view c.args.desk.now in
    exit-stops asked (HasJust asked c.args.numbers.items) d d c.args.inquirer.now c.args.self.now.notes NoMemory c.from_residual.result
    c.from_residual.ensures.1
    (stops-memory c.file_grows.ensures.begin asked (HasJust asked c.args.numbers.items) d c.args.inquirer.now c.args.self.now.notes)
