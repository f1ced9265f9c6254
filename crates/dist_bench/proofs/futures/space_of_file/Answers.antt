use Rattle.std.proofs.Common.{refl}
use Rattle.dist_bench.proofs.futures.space_of_file.Goals as goal

pub returns-in-Ok : goal.returns-in-Ok
returns-in-Ok c =
    (c.in_ok-newest.newest, c.in_ok-newest.ensures.answers, (c.in-Ok.space, record { is_space = c.in-Ok.ensures.ok; within = c.in-Ok.ensures.within }, refl))
