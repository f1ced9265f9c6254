use Rattle.std.proofs.Common.{◌≡◌, ◌++◌, codes, length, take}
use Rattle.std.specs.Prelude.{◌==◌, All}
use Rattle.std.specs.List.{flat_map}
use Rattle.dist_classes.specs.ClassList.{HasExample}
use Rattle.dist_report.specs.ClassesReport.{class_lines}
use Rattle.dist_report.specs.Lines.{key_line}
use Rattle.dist_report.proofs.classes_report.write_classes.Given as goal

abbrev pub invariant-loop-place : goal.invariant-loop-place
invariant-loop-place l = record {
  text : l.out.items ≡ (l.fn.out.items ++ key_line (codes "    classes:") (length l.classes == 0)) ++ flat_map class_lines (take l.place l.classes);
  there : All HasExample (take l.place l.classes);
}
