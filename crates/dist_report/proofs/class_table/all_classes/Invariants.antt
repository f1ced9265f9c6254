use Rattle.dist_report.proofs.KeptLemmas.{AreClassesIn}
use Rattle.dist_report.proofs.ToldLemmas.{AreToldSoFar}
use Rattle.dist_report.proofs.class_table.all_classes.Given as goal

abbrev pub invariant-loop-cluster : goal.invariant-loop-cluster
invariant-loop-cluster l = AreToldSoFar l.finder l.clusters l.cluster (AreClassesIn l.classes.items)
