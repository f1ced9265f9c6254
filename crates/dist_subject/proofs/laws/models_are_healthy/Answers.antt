use Rattle.dist_subject.proofs.Standing.{models-healthy}
use Rattle.dist_subject.proofs.laws.models_are_healthy.Goals as goal

pub returns : goal.returns
returns c = models-healthy c.models_are_installations.ensures (record {
  meet = c.futures_meet_their_clauses.ensures.exactly;
  models = c.healthy_are_models.ensures;
  exactly = c.healthy_stand_for_futures.ensures.exactly;
})
