use Rattle.dist_classes.proofs.MatchLemmas.{members-alike}
use Rattle.dist_classes.proofs.laws.new_versions_match_alike.Goals as goal

pub returns : goal.returns
returns c = members-alike
