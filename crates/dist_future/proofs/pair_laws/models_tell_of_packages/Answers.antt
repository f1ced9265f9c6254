use Rattle.dist_future.proofs.PairMeaning.{tell-of-package}
use Rattle.dist_future.proofs.pair_laws.models_tell_of_packages.Goals as goal

pub returns : goal.returns
returns c = λ s clauses n p space are is. tell-of-package (record {
  above = c.versions_are_in_one_class.ensures.above;
  below = c.versions_are_in_one_class.ensures.below;
  all = c.versions_are_in_one_class.ensures.all;
  members = c.new_versions_match_alike.ensures;
  names = c.new_names_match_alike.ensures;
}) s space clauses are n p is
