use Rattle.std.proofs.Common.{◌*◌, ◌≤◌}
use Rattle.dist_bench.specs.Packages.{HaveClasses}
use Rattle.dist_bench.proofs.packages.class_count.Given as goal

abbrev pub invariant-loop-cluster : goal.invariant-loop-cluster
invariant-loop-cluster l = record {
  upto : HaveClasses l.repository l.clusters l.cluster l.classes;
  fits : l.classes ≤ 18446744073709551615 * l.cluster;
}
