use Rattle.dist_future.proofs.SpaceMeaning.{stands-for-future}
use Rattle.dist_future.proofs.laws.each_model_is_a_future.Goals as goal

pub returns : goal.returns
returns c = λ s clauses values space are model. stands-for-future (record {
  above = c.versions_are_in_one_class.ensures.above;
  below = c.versions_are_in_one_class.ensures.below;
  all = c.versions_are_in_one_class.ensures.all;
  members = c.new_versions_match_alike.ensures;
  names = c.new_names_match_alike.ensures;
}) s space clauses are values model
