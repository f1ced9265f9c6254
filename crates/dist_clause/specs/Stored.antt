-- How a clause set keeps its clauses: each behind the one before it, within the set's limits.
use Rattle.std.specs.Prelude.{◌≤◌}
use Rattle.dist_base.specs.declared.TheConstants.{MAX_VARIABLES, MAX_CLAUSES, MAX_LITERALS}
use Rattle.dist_clause.specs.ClauseList.{ClauseList, IsWithinLimits}
use Rattle.dist_clause.specs.declared.clause_set.ClauseSet.TheInside.{Inside}

-- what is kept, seen as a list of clauses
abbrev pub stored_clauses : Inside → ClauseList
stored_clauses a = record {
  clauses = a.clauses;
  variables = a.variables;
  clause_limit = a.clause_limit;
  literal_limit = a.literal_limit;
}

-- the set's limits are kept and are at most the stated ones
pub record IsStored (a : Inside) : Type 0 where
  pub within : IsWithinLimits (stored_clauses a)
  pub variables_stated : a.variables ≤ MAX_VARIABLES
  pub clauses_stated : a.clause_limit ≤ MAX_CLAUSES
  pub literals_stated : a.literal_limit ≤ MAX_LITERALS
