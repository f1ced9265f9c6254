use Rattle.dist_future.proofs.SpaceLemmas.{above-cluster, class-above-cluster, cluster-has, has-cluster-of}
use Rattle.dist_future.proofs.pair_laws.clusters_and_classes_are_numbered.Goals as goal

pub returns-clause-clusters : goal.returns-clause-clusters
returns-clause-clusters c = λ s cluster m n p q space is_in is_p is_q. (
  λ other. has-cluster-of s space.frame cluster m n p q is_in is_p is_q other,
  λ clustered. cluster-has s space.frame cluster m n p q is_in is_p is_q clustered,
)

pub returns-clause-above : goal.returns-clause-above
returns-clause-above c = λ s cluster class q version space of. above-cluster (record {
  above = c.versions_are_in_one_class.ensures.above;
  below = c.versions_are_in_one_class.ensures.below;
  all = c.versions_are_in_one_class.ensures.all;
  members = c.new_versions_match_alike.ensures;
  names = c.new_names_match_alike.ensures;
}) s space.frame cluster class of.member q version of.in_cluster of.is of.is_version of.of_class

pub returns-clause-one_class : goal.returns-clause-one_class
returns-clause-one_class c = λ s cluster m q version space is_in is_q above. class-above-cluster (record {
  above = c.versions_are_in_one_class.ensures.above;
  below = c.versions_are_in_one_class.ensures.below;
  all = c.versions_are_in_one_class.ensures.all;
  members = c.new_versions_match_alike.ensures;
  names = c.new_names_match_alike.ensures;
}) s space.frame cluster m q version is_in is_q above
