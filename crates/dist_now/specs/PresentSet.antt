-- What `clauses_of` answers: the set of the clauses of the present, or the limit that they pass first.
use Rattle.std.specs.Prelude.{ℕ, Bool}
use Rattle.dist_clause.specs.ClauseList.{ClauseList}
use Rattle.dist_clause.specs.Demands as made
use Rattle.dist_clause.specs.declared.clause_set.PushError.{PushError}
use Rattle.dist_repo.specs.PackageList.{PackageList}
use Rattle.dist_now.specs.PresentClauses.{Demand, IsDemand, present_demands}

-- a set over the packages of a repository, with two limits, that holds the clauses of the demands with a property
abbrev pub IsSetOf : PackageList → (Demand → Type 0) → (clause_limit literal_limit : ℕ) → ClauseList → Type 0
IsSetOf r = made.IsSetOf (present_demands r)

-- there are as many clauses as there may be
abbrev pub PassesClauses : PackageList → Bool → (clause_limit literal_limit : ℕ) → Type 0
PassesClauses r essential = made.PassesClauseLimit (present_demands r) (IsDemand r essential)

-- there is room for the clause, but not for its literals
abbrev pub PassesLiterals : PackageList → Bool → (clause_limit literal_limit : ℕ) → Type 0
PassesLiterals r essential = made.PassesLiteralLimit (present_demands r) (IsDemand r essential)

-- why a refusal came; want of memory may come at any time
abbrev pub IsCause : PackageList → Bool → (clause_limit literal_limit : ℕ) → PushError → Type 0
IsCause r essential = made.IsCause (present_demands r) (IsDemand r essential)
