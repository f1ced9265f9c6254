use Rattle.std.proofs.Common.{inl, inr}
use Rattle.dist_commands.proofs.Due.{ok_more, err_more}
use Rattle.dist_commands.proofs.spaces.read_newest.Goals as goal

pub returns-in-Ok-clause-goes : goal.returns-in-Ok-clause-goes
returns-in-Ok-clause-goes g c =
    ok_more c.newest_of-newest.result _ _ (λ newest latest. (c.in-Ok.repository, c.in-Ok.ensures.goes, latest)) c.newest_of-newest.ensures.newest

pub returns-in-Ok-clause-due : goal.returns-in-Ok-clause-due
returns-in-Ok-clause-due g c = err_more c.newest_of-newest.result _ _ (λ refusal memory. inr (inl memory)) c.newest_of-newest.ensures.given_up
