use Rattle.dist_budget.proofs.Budgets.{budgets-are-enough}
use Rattle.dist_budget.proofs.laws.budgets_are_enough.Goals as goal

pub returns : goal.returns
returns c = budgets-are-enough c.forms_are_clear.ensures
