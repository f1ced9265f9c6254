use Rattle.dist_classes.proofs.ClassLemmas.{above-top, one-class_above, one-class_of_all}
use Rattle.dist_classes.proofs.laws.versions_are_in_one_class.Goals as goal

pub returns-clause-above : goal.returns-clause-above
returns-clause-above c = one-class_above

pub returns-clause-below : goal.returns-clause-below
returns-clause-below c = above-top

pub returns-clause-all : goal.returns-clause-all
returns-clause-all c = one-class_of_all
