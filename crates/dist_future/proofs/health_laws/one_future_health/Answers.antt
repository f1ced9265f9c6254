use Rattle.dist_future.proofs.HealthLemmas.{one-health}
use Rattle.dist_future.proofs.health_laws.one_future_health.Goals as goal

pub returns : goal.returns
returns c = one-health
