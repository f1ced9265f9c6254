use Rattle.std.proofs.Common.{◌≡◌, ◌+◌, ◌≤◌}
use Rattle.dist_outside.specs.Files.{IsWriting}
use Rattle.dist_repair_search.specs.SearchPrivate.{DownTo}
use Rattle.dist_line_write.specs.Script.{Grows}
use Rattle.dist_repair_search.proofs.search.ask_all.Given as goal

abbrev pub invariant-loop : goal.invariant-loop
invariant-loop g l = record {
  come : DownTo l.repairing.space.now l.words l.fn.notes (g.D.Desk.view l.fn.desk) l.fn.inquirer l.from l.above l.notes (g.D.Desk.view l.desk) l.inquirer;
  above : l.above ≤ l.words.most + 1;
  variables : l.inquirer.log.variables ≡ l.fn.inquirer.log.variables;
  limit : l.inquirer.limit ≡ l.fn.inquirer.limit;
  writing : IsWriting (g.D.Desk.view l.desk).mode;
  grows : Grows (g.D.Desk.view l.fn.desk) (g.D.Desk.view l.desk);
}
