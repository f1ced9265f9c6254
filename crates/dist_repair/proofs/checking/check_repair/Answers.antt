use Rattle.dist_repair.proofs.VerdictLemmas.{of-text, verdict-answers, verdict-says}
use Rattle.dist_repair.proofs.checking.check_repair.Goals as goal

pub returns-in-Ok-clause-text : goal.returns-in-Ok-clause-text
returns-in-Ok-clause-text g c = of-text _ (λ text answers. verdict-answers c.args.space.now c.forms_are_clear.ensures c.args.limits.now text
    c.in-Ok.answered c.verdict_of.result c.verdict_of.ensures answers) c.in-Ok.ensures.text

pub returns-in-Ok-clause-some : goal.returns-in-Ok-clause-some
returns-in-Ok-clause-some g c = (
  c.in-Ok.ensures.some.0,
  verdict-answers c.args.space.now c.forms_are_clear.ensures c.args.limits.now c.in-Ok.ensures.some.0 c.in-Ok.answered c.verdict_of.result
      c.verdict_of.ensures c.in-Ok.ensures.some.1,
)

pub returns-in-Ok-clause-says : goal.returns-in-Ok-clause-says
returns-in-Ok-clause-says g c = verdict-says c.accepted_repairs_hold.ensures c.args.space.now c.keeps_invariant.ensures.space c.args.limits.now
    c.in-Ok.ensures.some.0 c.verdict_of.result (verdict-answers c.args.space.now c.forms_are_clear.ensures c.args.limits.now c.in-Ok.ensures.some.0
    c.in-Ok.answered c.verdict_of.result c.verdict_of.ensures c.in-Ok.ensures.some.1)
