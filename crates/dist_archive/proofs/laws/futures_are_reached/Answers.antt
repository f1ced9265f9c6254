use Rattle.dist_archive.proofs.FitLemmas.{future-all-fit}
use Rattle.dist_archive.proofs.FutureLemmas.{reached-future}
use Rattle.dist_archive.proofs.OnePlanLemmas.{one-plan}
use Rattle.dist_archive.proofs.PlanLemmas.{future-reached, plan-some}
use Rattle.dist_archive.proofs.StageLemmas.{plan-leads}
use Rattle.dist_archive.proofs.TakenLemmas.{plan-taken}
use Rattle.dist_archive.proofs.laws.futures_are_reached.Goals as goal

pub returns-clause-exactly : goal.returns-clause-exactly
returns-clause-exactly c = λ s archive space. (reached-future s archive space, future-reached s archive space)

pub returns-clause-plan : goal.returns-clause-plan
returns-clause-plan c = λ s later space future. plan-some s space.frame later future

pub returns-clause-one : goal.returns-clause-one
returns-clause-one c = λ s later steps other space first second. one-plan s space.frame later steps other first second

pub returns-clause-leads : goal.returns-clause-leads
returns-clause-leads c = λ s later steps space future plan. plan-leads s space.frame later future steps plan

pub returns-clause-taken : goal.returns-clause-taken
returns-clause-taken c = λ s later steps space future plan. plan-taken s space.frame later future steps plan

pub returns-clause-fits : goal.returns-clause-fits
returns-clause-fits c = λ s later space one. future-all-fit s.repository space.frame.flat later one
