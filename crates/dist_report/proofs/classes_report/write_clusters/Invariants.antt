use Rattle.std.proofs.Common.{◌++◌, codes, length}
use Rattle.std.specs.Prelude.{◌==◌}
use Rattle.dist_report.specs.Lines.{key_line}
use Rattle.dist_report.proofs.ToldLemmas.{AreToldSoFar, EndsWithLines}
use Rattle.dist_report.proofs.classes_report.write_clusters.Given as goal

abbrev pub invariant-loop-cluster : goal.invariant-loop-cluster
invariant-loop-cluster l = AreToldSoFar l.labels l.clusters l.cluster
    (EndsWithLines l.labels (l.fn.out.items ++ key_line (codes "clusters:") (length l.clusters.members == 0)) l.out.items)
