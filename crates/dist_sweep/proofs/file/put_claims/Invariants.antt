use Rattle.std.proofs.Common.{◌≡◌, ◌≤◌, ℕ, length}
use Rattle.dist_outside.specs.Files.{IsWriting}
use Rattle.dist_line_write.specs.Script.{Grows}
use Rattle.dist_sweep.specs.Sweeping.{ClaimsMore}
use Rattle.dist_sweep.proofs.file.put_claims.Given as goal

abbrev pub invariant-loop-place : goal.invariant-loop-place
invariant-loop-place g l = record {
  writing : IsWriting (g.D.Desk.view l.desk).mode;
  limit : 1 ≤ l.asker.limit;
  same : l.asker.log.variables ≡ l.window.variables;
  variables : l.window.variables ≡ l.fn.window.variables;
  fits : (p : ℕ) → 1 ≤ p → p ≤ l.fn.packages → g.C.Claimant.fits l.claimant l.fn.window.variables p;
  count : length l.made ≡ l.place;
  more : ClaimsMore g.C.Claimant.keeps l.fn.packages (g.D.Desk.view l.fn.desk) (g.D.Desk.view l.desk) l.fn.asker l.asker l.fn.window l.window
      l.fn.claimant l.claimant l.made;
  grows : Grows (g.D.Desk.view l.fn.desk) (g.D.Desk.view l.desk);
}
