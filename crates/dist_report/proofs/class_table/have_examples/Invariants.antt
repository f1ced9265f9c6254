use Rattle.std.proofs.Common.{take}
use Rattle.std.specs.Prelude.{All}
use Rattle.dist_classes.specs.ClassList.{HasExample}
use Rattle.dist_report.proofs.class_table.have_examples.Given as goal

abbrev pub invariant-loop-place : goal.invariant-loop-place
invariant-loop-place l = All HasExample (take l.place l.classes)
