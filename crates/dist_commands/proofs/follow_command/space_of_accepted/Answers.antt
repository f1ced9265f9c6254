use Rattle.std.proofs.Common.{true, None, Option, subst}
use Rattle.dist_space.specs.Space.{SpaceView}
use Rattle.dist_check.specs.JudgedSpace.{IsSpaceGiven}
use Rattle.dist_commands.proofs.FollowStages.{at-hand}
use Rattle.dist_commands.proofs.follow_command.space_of_accepted.Goals as goal

pub returns-in-Some-clause-goes : goal.returns-in-Some-clause-goes
returns-in-Some-clause-goes c =
    at-hand c.args.repository c.args.limits.now c.args.accepted.now.header.kind c.args.accepted.now.header.essential c.in-Some.space
    (subst (λ (o : Option SpaceView). IsSpaceGiven c.args.repository c.args.limits.now true c.args.accepted.now.header.kind
    c.args.accepted.now.header.essential o) c.in-Some.is c.requires.space).1

pub returns-in-Some-clause-within_size : goal.returns-in-Some-clause-within_size
returns-in-Some-clause-within_size c =
    let goes = returns-in-Some-clause-goes c in
    c.latest_is_one.ensures.within_size c.args.repository c.in-Some.space.repository (goes None).0.0 c.requires.within_size
