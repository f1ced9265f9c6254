use Rattle.std.proofs.Common.{◌++◌, codes, length}
use Rattle.std.specs.Prelude.{◌==◌}
use Rattle.dist_report.specs.Lines.{key_line}
use Rattle.dist_report.proofs.ToldLemmas.{AreNamesSoFar}
use Rattle.dist_report.proofs.classes_report.write_names.Given as goal

abbrev pub invariant-loop-place : goal.invariant-loop-place
invariant-loop-place l = AreNamesSoFar l.finder l.names l.place (l.fn.out.items ++ key_line (codes "names:") (length l.names == 0)) l.out.items
