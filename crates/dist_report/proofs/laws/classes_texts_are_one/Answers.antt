use Rattle.dist_report.proofs.OneText.{one-text}
use Rattle.dist_report.proofs.SomeText.{some-text}
use Rattle.dist_report.proofs.laws.classes_texts_are_one.Goals as goal

pub returns-clause-there : goal.returns-clause-there
returns-clause-there c =
    some-text c.told_clusters_are_one.ensures.there c.classes_are_there.ensures.name c.new_names_are_one.ensures.there c.no_class_is_empty.ensures.name

pub returns-clause-one : goal.returns-clause-one
returns-clause-one c = one-text c.told_clusters_are_one.ensures.one c.cuts_are_one.ensures.name c.new_names_are_one.ensures.one
