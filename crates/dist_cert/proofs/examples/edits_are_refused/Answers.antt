use Rattle.dist_cert.proofs.ExampleRefused.{hint-missed, claim-missed}
use Rattle.dist_cert.proofs.examples.edits_are_refused.Goals as goal

pub returns-clause-hint : goal.returns-clause-hint
returns-clause-hint c limits room = hint-missed limits room

pub returns-clause-claim : goal.returns-clause-claim
returns-clause-claim c limits room = claim-missed limits room
