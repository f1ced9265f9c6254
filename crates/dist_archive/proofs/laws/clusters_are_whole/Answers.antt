use Rattle.dist_archive.proofs.OneLemmas.{in-one}
use Rattle.dist_archive.proofs.laws.clusters_are_whole.Goals as goal

pub returns : goal.returns
returns c = λ s cluster c' q space first second. in-one s space.frame cluster c' q first second
