use Rattle.dist_future.proofs.SpaceMeaning.{stand-for-futures}
use Rattle.dist_future.proofs.laws.models_stand_for_futures.Goals as goal

pub returns : goal.returns
returns c = λ s clauses space are. stand-for-futures (record {
  above = c.versions_are_in_one_class.ensures.above;
  below = c.versions_are_in_one_class.ensures.below;
  all = c.versions_are_in_one_class.ensures.all;
  members = c.new_versions_match_alike.ensures;
  names = c.new_names_match_alike.ensures;
}) s space clauses are
