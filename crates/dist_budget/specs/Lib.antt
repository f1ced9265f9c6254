pub mod Budget
pub mod SearchBudget
pub mod BudgetExamples
