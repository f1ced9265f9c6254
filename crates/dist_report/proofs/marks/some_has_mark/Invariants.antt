use Rattle.std.proofs.Common.{◌≡◌, false, take}
use Rattle.std.specs.List.{list_any}
use Rattle.dist_report.specs.Marks.{has_mark}
use Rattle.dist_report.proofs.marks.some_has_mark.Given as goal

abbrev pub invariant-loop-place : goal.invariant-loop-place
invariant-loop-place l = list_any has_mark (take l.place l.claims) ≡ false
