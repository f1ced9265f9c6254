use Rattle.dist_now.proofs.OneHealth.{one-health}
use Rattle.dist_now.proofs.laws.one_health.Goals as goal

pub returns : goal.returns
returns c = one-health
