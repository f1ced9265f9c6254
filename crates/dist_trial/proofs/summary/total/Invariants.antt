use Rattle.std.proofs.Common.{◌≡◌, ◌*◌, ◌≤◌, take}
use Rattle.std.specs.Prelude.{sum_by}
use Rattle.dist_trial.specs.FiguresPrivate.{figure_in}
use Rattle.dist_trial.proofs.summary.total.Given as goal

abbrev pub invariant-loop-place : goal.invariant-loop-place
invariant-loop-place l = record {
  upto : l.sum ≡ sum_by (figure_in l.figure) (take l.place l.claims);
  fits : l.sum ≤ 18446744073709551615 * l.place;
}
