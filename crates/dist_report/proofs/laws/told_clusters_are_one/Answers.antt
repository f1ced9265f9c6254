use Rattle.dist_report.proofs.OneText.{one-clusters}
use Rattle.dist_report.proofs.SomeText.{some-clusters}
use Rattle.dist_report.proofs.laws.told_clusters_are_one.Goals as goal

pub returns-clause-there : goal.returns-clause-there
returns-clause-there c =
    some-clusters c.partitions_are_one.ensures.there c.tops_are_one.ensures.there c.classes_are_there.ensures.cluster c.no_class_is_empty.ensures.cluster

pub returns-clause-one : goal.returns-clause-one
returns-clause-one c = one-clusters c.partitions_are_one.ensures.one c.tops_are_one.ensures.one c.cuts_are_one.ensures.cluster
