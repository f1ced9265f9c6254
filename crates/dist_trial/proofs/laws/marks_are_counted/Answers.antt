use Rattle.dist_trial.proofs.Marks.{none, none-of-three}
use Rattle.dist_trial.proofs.laws.marks_are_counted.Goals as goal

pub returns-clause-one : goal.returns-clause-one
returns-clause-one c = none

pub returns-clause-three : goal.returns-clause-three
returns-clause-three c = none-of-three
