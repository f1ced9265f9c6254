use Rattle.std.proofs.Common.{◌≡◌}
use Rattle.dist_outside.specs.Files.{IsWriting}
use Rattle.dist_line_write.specs.Script.{Grows}
use Rattle.dist_repair_search.proofs.SearchLemmas.{SearchTo}
use Rattle.dist_repair_search.proofs.search.ask_up.Given as goal

abbrev pub invariant-loop-number : goal.invariant-loop-number
invariant-loop-number g l = record {
  come : SearchTo l.repairing.space.now l.words l.fn.notes (g.D.Desk.view l.fn.desk) l.fn.inquirer l.number l.notes (g.D.Desk.view l.desk) l.inquirer;
  variables : l.inquirer.log.variables ≡ l.fn.inquirer.log.variables;
  limit : l.inquirer.limit ≡ l.fn.inquirer.limit;
  writing : IsWriting (g.D.Desk.view l.desk).mode;
  grows : Grows (g.D.Desk.view l.fn.desk) (g.D.Desk.view l.desk);
}
