-- How the clauses of a space stand behind each other.
use Rattle.std.specs.Prelude.{List}
use Rattle.dist_base.specs.RowLaws.{Continues}
use Rattle.dist_clause.specs.Formula.{Literal}

-- the list goes on with the clause behind its front
abbrev pub GoesOn : (whole front : List (List Literal)) → List Literal → Type 0
GoesOn = Continues
