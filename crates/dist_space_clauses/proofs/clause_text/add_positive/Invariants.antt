use Rattle.std.specs.Prelude.{◌≡◌, ◌++◌, map, take}
use Rattle.dist_space_clauses.specs.GatheringPrivate.{positive}
use Rattle.dist_space_clauses.proofs.clause_text.add_positive.Given as goal

-- the literals of the variables so far were added
abbrev pub invariant-loop-variable : goal.invariant-loop-variable
invariant-loop-variable l = l.clause.items ≡ l.initial.clause.items ++ map positive (take l.variable-index l.variables)
