use Rattle.dist_list.proofs.NamedLemmas.{one-named}
use Rattle.dist_list.proofs.laws.names_are_exact.Goals as goal

pub returns : goal.returns
returns c = one-named
