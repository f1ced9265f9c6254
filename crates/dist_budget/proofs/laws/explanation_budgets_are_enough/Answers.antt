use Rattle.dist_budget.proofs.SearchBudgets.{explanation-below}
use Rattle.dist_budget.proofs.laws.explanation_budgets_are_enough.Goals as goal

pub returns : goal.returns
returns c = explanation-below c.present_clauses_are_one.ensures
