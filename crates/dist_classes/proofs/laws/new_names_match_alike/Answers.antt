use Rattle.dist_classes.proofs.MatchLemmas.{names-alike}
use Rattle.dist_classes.proofs.laws.new_names_match_alike.Goals as goal

pub returns : goal.returns
returns c = names-alike
