use Rattle.dist_space.proofs.FirstVariables.{packages-next, today-first}
use Rattle.dist_space.proofs.space_laws.packages_come_first.Goals as goal

pub returns-clause-now : goal.returns-clause-now
returns-clause-now c = today-first

pub returns-clause-packages : goal.returns-clause-packages
returns-clause-packages c = λ s number space. packages-next s space number
