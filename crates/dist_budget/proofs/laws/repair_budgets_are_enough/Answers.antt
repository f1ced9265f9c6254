use Rattle.dist_budget.proofs.SearchBudgets.{repair-below}
use Rattle.dist_budget.proofs.laws.repair_budgets_are_enough.Goals as goal

pub returns : goal.returns
returns c = repair-below
