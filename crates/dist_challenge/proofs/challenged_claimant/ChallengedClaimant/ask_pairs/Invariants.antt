use Rattle.std.proofs.Common.{◌≡◌, length, true}
use Rattle.dist_outside.specs.Files.{IsWriting}
use Rattle.dist_line_write.specs.Script.{Grows}
use Rattle.dist_challenge.specs.GroupPrivate.{FitsGroup, SettleMore}
use Rattle.dist_challenge.proofs.challenged_claimant.ChallengedClaimant.ask_pairs.Given as goal

abbrev pub invariant-pairs : goal.invariant-pairs
invariant-pairs g l = record {
  writing : IsWriting (g.D.Desk.view l.desk).mode;
  fits : FitsGroup l.asker l.window l.self.covering l.group;
  claimed : l.group.claimed ≡ l.fn.group.claimed;
  space : l.self.covering.space ≡ l.fn.self.covering.space;
  latest : (l.until_found ≡ true → l.window.count ≡ l.fn.window.count);
  more : SettleMore (g.D.Desk.view l.fn.desk) (g.D.Desk.view l.desk) l.fn.asker l.asker l.fn.window l.window l.fn.self.covering l.self.covering l.fn.group
      l.group;
  grows : Grows (g.D.Desk.view l.fn.desk) (g.D.Desk.view l.desk);
}

abbrev pub decreases-pairs : goal.decreases-pairs
decreases-pairs g l = length l.group.left
