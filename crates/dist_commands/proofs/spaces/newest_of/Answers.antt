use Rattle.dist_commands.proofs.spaces.newest_of.Goals as goal

pub returns-in-Ok-clause-within_size : goal.returns-in-Ok-clause-within_size
returns-in-Ok-clause-within_size c = c.latest_is_one.ensures.within_size c.args.repository.now c.in-Ok.newest c.in-Ok.ensures c.requires
