use Rattle.dist_commands.proofs.HealthTexts.{has_text}
use Rattle.dist_commands.proofs.health.judge.Goals as goal

pub health_text-requires : goal.health_text-requires
health_text-requires c = has_text c.args.repository.now c.args.members.now c.health-found.result c.health-found.ensures
