use Rattle.std.proofs.Common.{◌≡◌}
use Rattle.dist_outside.specs.Files.{IsWriting}
use Rattle.dist_strong.specs.Candidates.{AreCandidates}
use Rattle.dist_strong.specs.Group.{open_count}
use Rattle.dist_line_write.specs.Script.{Grows}
use Rattle.dist_strong.specs.SettlingPrivate.{Fits, SettleMore}
use Rattle.dist_strong.proofs.settling.ask_candidates.Given as goal

abbrev pub invariant-candidates : goal.invariant-candidates
invariant-candidates g l = record {
  writing : IsWriting (g.D.Desk.view l.desk).mode;
  fits : Fits l.asker l.window l.group;
  variables : l.group.variables ≡ l.fn.group.variables;
  row : AreCandidates l.window l.group l.candidates;
  more : SettleMore (g.D.Desk.view l.fn.desk) (g.D.Desk.view l.desk) l.fn.asker l.asker l.fn.window l.window l.fn.group l.group;
  grows : Grows (g.D.Desk.view l.fn.desk) (g.D.Desk.view l.desk);
}

abbrev pub decreases-candidates : goal.decreases-candidates
decreases-candidates g l = open_count l.group
