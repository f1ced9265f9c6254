use Rattle.dist_report.proofs.RowLemmas.{IsRowSoFar}
use Rattle.dist_report.proofs.class_table.ClassRow.of.Given as goal

abbrev pub invariant-loop-cluster : goal.invariant-loop-cluster
invariant-loop-cluster l = IsRowSoFar l.classes l.cluster l.starts.items l.pairs.items
