use Rattle.dist_future.proofs.MoveLemmas.{tell-of-moves}
use Rattle.dist_future.proofs.laws.models_tell_of_moves.Goals as goal

pub returns : goal.returns
returns c = λ s clauses space are. tell-of-moves (record {
  above = c.versions_are_in_one_class.ensures.above;
  below = c.versions_are_in_one_class.ensures.below;
  all = c.versions_are_in_one_class.ensures.all;
  members = c.new_versions_match_alike.ensures;
  names = c.new_names_match_alike.ensures;
}) s space clauses are
