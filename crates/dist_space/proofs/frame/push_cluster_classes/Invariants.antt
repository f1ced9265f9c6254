use Rattle.std.proofs.Common.{◌≡◌, ℕ, ◌<◌, [], length, get_or}
use Rattle.dist_classes.specs.Answers.{AreClassesOf}
use Rattle.dist_space.specs.Kept.{AreExampled}
use Rattle.dist_space.proofs.frame.push_cluster_classes.Given as goal

abbrev pub invariant-loop-cluster : goal.invariant-loop-cluster
invariant-loop-cluster l = record {
  counted : length l.classes.items ≡ l.cluster;
  are : (k : ℕ) → k < l.cluster → AreClassesOf l.finder (get_or l.clusters.members k []) (get_or l.clusters.tops k []) (get_or l.classes.items k []);
  examples : (k : ℕ) → k < l.cluster → AreExampled (get_or l.classes.items k []);
}
