use Rattle.dist_package.proofs.SpelledLemmas.{spelled-repository}
use Rattle.dist_package.proofs.laws.packages_are_spelled.Goals as goal

pub returns : goal.returns
returns c = spelled-repository
