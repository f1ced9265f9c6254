use Rattle.dist_check.proofs.Whole.{accepted-mean}
use Rattle.dist_check.proofs.laws.accepted_claims_hold.Goals as goal

pub returns : goal.returns
returns c = accepted-mean c.forms_are_clear.ensures (record {
  follows = c.lines_keep_models.ensures.what_follows;
  installations = c.models_are_installations.ensures;
  healthy = c.models_are_healthy.ensures;
  later = record {
    now = c.packages_come_first.ensures.now;
    stand = c.models_stand_for_futures.ensures;
    tell = c.models_tell_of_packages.ensures;
    pairs_are = c.pairs_are_of_the_space.ensures.pairs;
    covered = c.pairs_are_of_the_space.ensures.covered;
    clusters = c.clusters_and_classes_are_numbered.ensures.clusters;
    one_class = c.clusters_and_classes_are_numbered.ensures.one_class;
  };
})
