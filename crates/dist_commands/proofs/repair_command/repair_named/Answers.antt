use Rattle.std.proofs.Common.{inl, inr, refl}
use Rattle.dist_commands.proofs.Due.{err_more, ok_more}
use Rattle.dist_commands.proofs.repair_command.repair_named.Goals as goal

pub returns-in-Ok-clause-answers : goal.returns-in-Ok-clause-answers
returns-in-Ok-clause-answers g c =
    ok_more c.repair_in_space.result _ _ (λ answer whole. (c.in-Ok.number, c.in-Ok.ensures.goes, whole)) c.repair_in_space.ensures.answers

pub returns-in-Ok-clause-stops : goal.returns-in-Ok-clause-stops
returns-in-Ok-clause-stops g c =
    err_more c.repair_in_space.result _ _ (λ why stops. inr (c.in-Ok.number, c.in-Ok.ensures.goes, stops)) c.repair_in_space.ensures.stops

pub returns-in-Err-clause-stops : goal.returns-in-Err-clause-stops
returns-in-Err-clause-stops g c = inl (refl, c.in-Err.ensures.given_up (g.D.Desk.view c.args.desk.now).files)
