use Rattle.dist_commands.proofs.StepsStages.{space-given-up, space-goes, space-size}
use Rattle.dist_commands.proofs.spaces.space_of_file.Goals as goal

pub space_within-requires-clause-flat : goal.space_within-requires-clause-flat
space_within-requires-clause-flat c = c.in-Ok.ensures.newest.flat

pub returns-in-Ok-clause-goes : goal.returns-in-Ok-clause-goes
returns-in-Ok-clause-goes c =
    space-goes c.args.repository c.in-Ok.newest c.in-Ok.ensures.newest c.args.essential c.args.limits.now c.space_within.result
    c.space_within.ensures.space c.space_within.ensures.within

pub returns-in-Ok-clause-given_up : goal.returns-in-Ok-clause-given_up
returns-in-Ok-clause-given_up c =
    space-given-up c.args.repository c.in-Ok.newest c.in-Ok.ensures.newest c.args.essential c.args.limits.now c.space_within.result
    c.space_within.ensures.given_up

pub returns-in-Ok-clause-within_size : goal.returns-in-Ok-clause-within_size
returns-in-Ok-clause-within_size c =
    space-size c.args.repository c.in-Ok.newest c.in-Ok.ensures.newest c.args.essential c.space_within.result c.in-Ok.ensures.within_size
    c.space_within.ensures.space
