use Rattle.std.proofs.Common.{inl, inr, refl}
use Rattle.dist_commands.proofs.Due.{both, err_more, ok_more}
use Rattle.dist_commands.proofs.explain_command.explain_named.Goals as goal

pub returns-in-Ok-clause-answers : goal.returns-in-Ok-clause-answers
returns-in-Ok-clause-answers g c =
    ok_more c.write_explanation.result _ _ (λ answer whole. (c.in-Ok.number, c.in-Ok.ensures.goes, whole.0, whole.1))
    (both c.write_explanation.result _ _ c.write_explanation.ensures.kept c.write_explanation.ensures.written)

pub returns-in-Ok-clause-stops : goal.returns-in-Ok-clause-stops
returns-in-Ok-clause-stops g c =
    err_more c.write_explanation.result _ _ (λ why stops. inr (c.in-Ok.number, c.in-Ok.ensures.goes, stops)) c.write_explanation.ensures.stops

pub returns-in-Err-clause-stops : goal.returns-in-Err-clause-stops
returns-in-Err-clause-stops g c = inl (refl, c.in-Err.ensures.given_up (g.D.Desk.view c.args.desk.now).files)
