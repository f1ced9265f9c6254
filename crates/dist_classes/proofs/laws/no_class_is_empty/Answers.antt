use Rattle.dist_classes.proofs.ExampleLemmas.{cluster-examples, name-examples}
use Rattle.dist_classes.proofs.laws.no_class_is_empty.Goals as goal

pub returns-clause-cluster : goal.returns-clause-cluster
returns-clause-cluster c = cluster-examples (record {
  above = c.versions_are_dense.ensures.above;
  between = c.versions_are_dense.ensures.between;
  below = c.versions_are_dense.ensures.below;
})

pub returns-clause-name : goal.returns-clause-name
returns-clause-name c = name-examples (record {
  above = c.versions_are_dense.ensures.above;
  between = c.versions_are_dense.ensures.between;
  below = c.versions_are_dense.ensures.below;
})
