use Rattle.dist_archive.proofs.FutureLemmas.{led-future, made-future, reached-future, today-future}
use Rattle.dist_archive.proofs.laws.steps_reach_futures.Goals as goal

pub returns-clause-today : goal.returns-clause-today
returns-clause-today c = today-future

pub returns-clause-step : goal.returns-clause-step
returns-clause-step c = made-future

pub returns-clause-steps : goal.returns-clause-steps
returns-clause-steps c = led-future

pub returns-clause-reached : goal.returns-clause-reached
returns-clause-reached c = reached-future
