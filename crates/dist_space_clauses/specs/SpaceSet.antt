-- What `clauses_of` answers: the set of the clauses of a space, or the limit that they pass first.
use Rattle.std.specs.Prelude.{ℕ}
use Rattle.dist_clause.specs.ClauseList.{ClauseList}
use Rattle.dist_clause.specs.Demands as made
use Rattle.dist_clause.specs.declared.clause_set.PushError.{PushError}
use Rattle.dist_space.specs.Space.{SpaceView}
use Rattle.dist_space_clauses.specs.SpaceClauses.{Demand, IsDemand, space_demands}

-- a set over the variables of a space, with two limits, that holds the clauses of the demands with a property
abbrev pub IsSetOf : SpaceView → (Demand → Type 0) → (clause_limit literal_limit : ℕ) → ClauseList → Type 0
IsSetOf s = made.IsSetOf (space_demands s)

-- there are as many clauses as there may be
abbrev pub PassesClauses : SpaceView → (clause_limit literal_limit : ℕ) → Type 0
PassesClauses s = made.PassesClauseLimit (space_demands s) (IsDemand s)

-- there is room for the clause, but not for its literals
abbrev pub PassesLiterals : SpaceView → (clause_limit literal_limit : ℕ) → Type 0
PassesLiterals s = made.PassesLiteralLimit (space_demands s) (IsDemand s)

-- why a refusal came; want of memory may come at any time
abbrev pub IsCause : SpaceView → (clause_limit literal_limit : ℕ) → PushError → Type 0
IsCause s = made.IsCause (space_demands s) (IsDemand s)
