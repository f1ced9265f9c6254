use Rattle.std.proofs.Common.{◌≡◌, ◌⊎◌, ℕ, ◌+◌, ◌*◌, ◌≤◌, [], length}
use Rattle.std.specs.Prelude.{Contains}
use Rattle.dist_outside.specs.Files.{IsWriting}
use Rattle.dist_line_write.specs.Script.{Grows}
use Rattle.dist_explain_search.specs.SearchPrivate.{AreNumbers, Goes, Marks}
use Rattle.dist_explain_search.proofs.search.ExplainSearch.settle_core.Given as goal

abbrev pub invariant-tries : goal.invariant-tries
invariant-tries g l = record {
  writing : IsWriting (g.D.Desk.view l.desk).mode;
  asked : l.self.asked ≡ l.fn.self.asked;
  variables : l.inquirer.log.variables ≡ l.fn.inquirer.log.variables;
  limit : l.inquirer.limit ≡ l.fn.inquirer.limit;
  core : AreNumbers l.fn.self.asked l.core.items;
  cover : (k : ℕ) → Contains l.core.items k → Contains l.done.items k ⊎ Contains l.left.items k;
  few : length l.done.items + length l.left.items ≤ length l.fn.first.items;
  more : Goes l.fn.self.asked (Marks l.fn.self.asked l.fn.first.items []) (Marks l.fn.self.asked l.core.items l.done.items) (g.D.Desk.view l.fn.desk)
      (g.D.Desk.view l.desk) l.fn.inquirer l.inquirer l.fn.self.notes l.self.notes;
  grows : Grows (g.D.Desk.view l.fn.desk) (g.D.Desk.view l.desk);
}

abbrev pub decreases-tries : goal.decreases-tries
decreases-tries g l = (length l.fn.first.items + 1) * length l.core.items + length l.left.items
