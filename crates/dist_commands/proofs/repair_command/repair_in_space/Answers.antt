use Rattle.std.proofs.Common.{inl, inr, refl}
use Rattle.dist_commands.proofs.Due.{both, err_more, ok_more}
use Rattle.dist_commands.proofs.RepairLemmas.{no_plain_space, within_space}
use Rattle.dist_commands.proofs.repair_command.repair_in_space.Goals as goal

pub write_repair-answer-requires-clause-number : goal.write_repair-answer-requires-clause-number
write_repair-answer-requires-clause-number g c =
    within_space c.args.newest c.in-Ok.space c.args.number c.in-Ok.ensures.space c.requires.number

pub returns-in-Ok-clause-answers : goal.returns-in-Ok-clause-answers
returns-in-Ok-clause-answers g c =
    ok_more c.write_repair-answer.result _ _ (λ answer whole. (c.in-Ok.space, (c.in-Ok.ensures.space, c.in-Ok.ensures.within), whole.0, whole.1))
    (both c.write_repair-answer.result _ _ c.write_repair-answer.ensures.kept c.write_repair-answer.ensures.written)

pub returns-in-Ok-clause-stops : goal.returns-in-Ok-clause-stops
returns-in-Ok-clause-stops g c =
    err_more c.write_repair-answer.result _ _ (λ why stops. inr (c.in-Ok.space, (c.in-Ok.ensures.space, c.in-Ok.ensures.within), stops))
    c.write_repair-answer.ensures.stops

pub returns-in-Err-clause-stops : goal.returns-in-Err-clause-stops
returns-in-Err-clause-stops g c =
    inl (refl, no_plain_space c.args.newest c.args.limits.now c.in-Err.refusal (g.D.Desk.view c.args.desk.now).files c.in-Err.ensures.given_up)
