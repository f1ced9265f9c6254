use Rattle.dist_future.proofs.DemandLemmas.{met-from-model, model-from-met}
use Rattle.dist_future.proofs.HealthLemmas.{health-from-met, met-from-health}
use Rattle.dist_future.proofs.health_laws.healthy_are_models.Goals as goal

pub returns : goal.returns
returns c = λ s clauses values space are. (
  λ healthy. model-from-met s values clauses are (met-from-health s values space healthy),
  λ model. health-from-met s values (met-from-model s values clauses are model),
)
