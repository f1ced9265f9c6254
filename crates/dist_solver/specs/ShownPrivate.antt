-- An answer that came without a line more.
use Rattle.std.specs.Prelude.{List}
use Rattle.dist_clause.specs.Formula.{Literal}
use Rattle.dist_derive.specs.ClauseLog.{ClauseLog}
use Rattle.dist_solver.specs.Ask.{IsModelUnder, IsRefutation}
use Rattle.dist_solver.specs.declared.answers.Answer.{Answer}
use Rattle.dist_solver.specs.declared.answers.Answer.TheVariants.{Found, Refuted, Undecided}

-- a model, or a refutation
abbrev pub IsShown : ClauseLog → List Literal → Answer → Type 0
IsShown log assumptions (Found values) = IsModelUnder log assumptions values
IsShown log assumptions (Refuted hints) = IsRefutation log assumptions hints
IsShown log assumptions Undecided = ⊥
