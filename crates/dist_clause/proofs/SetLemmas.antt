-- A clause more in a set, within its limits.
use Rattle.std.proofs.Common.{◌≤◌, ◌<◌, ◌+◌, List, [], ◌∷◌, ◌++◌, length, arith}
use Rattle.std.proofs.lemmas.List.{length_push}
use Rattle.std.proofs.lemmas.List.Elements.{All-push}
use Rattle.std.proofs.lemmas.List.Sums.{sum_by_push}
use Rattle.dist_clause.specs.ClauseList.{ClauseList, IsWithinLimits, literal_count}
use Rattle.dist_clause.specs.Formula.{Literal, IsClauseOver}

pub IsWithinLimits-push : (set : ClauseList) (clause : List Literal) → IsWithinLimits set → IsClauseOver set.variables clause
    → length set.clauses < set.clause_limit → literal_count set.clauses + length clause ≤ set.literal_limit
    → IsWithinLimits (record set { clauses = set.clauses ++ clause ∷ [] })
IsWithinLimits-push set clause within over room_clauses room_literals = record {
  clauses_within = omega (arith, length_push set.clauses clause);
  literals_within = omega (arith, sum_by_push (λ c. length c) set.clauses clause);
  over_variables = All-push (IsClauseOver set.variables) set.clauses clause within.over_variables over;
}
