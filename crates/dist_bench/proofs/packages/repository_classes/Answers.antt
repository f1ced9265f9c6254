use Rattle.std.proofs.Common.{◌∙◌, codes}
use Rattle.dist_bench.proofs.Counting.{three-counts}
use Rattle.dist_bench.proofs.packages.repository_classes.Goals as goal

pub returns : goal.returns
returns c = record {
  clusters = c.in_ok-clusters.clusters;
  are_clusters = c.in_ok-clusters.ensures;
  classes = c.in_ok-classes.classes;
  have_classes = c.in_ok-classes.ensures;
  names = c.in_ok-names.names;
  are_names = c.in_ok-names.ensures;
  is = three-counts (codes " clusters, ") (codes " classes, ") (codes " new names\n") _ _ _ _ _ _ _ _
      c.in_ok-text.ensures (c.from.ensures ∙ c.len.ensures) c.in_ok-add_counted.ensures c.in_ok-add_counted-2.ensures c.len-2.ensures;
}
