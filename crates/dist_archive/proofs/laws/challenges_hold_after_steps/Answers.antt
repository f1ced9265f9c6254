use Rattle.dist_archive.proofs.FutureLemmas.{challenge-holds}
use Rattle.dist_archive.proofs.laws.challenges_hold_after_steps.Goals as goal

pub returns : goal.returns
returns c = challenge-holds
