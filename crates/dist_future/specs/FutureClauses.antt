-- The clauses of a space that say what a future is, apart from those that say what is installed in it.
use Rattle.std.specs.Prelude.{◌≡◌, ◌⊎◌, ◌≤◌, ℕ, Bool, List, drop, take}
use Rattle.dist_clause.specs.Formula.{Literal, IsModel, MakesTrue, value_of}
use Rattle.dist_space.specs.Space.{SpaceView}
use Rattle.dist_space_clauses.specs.SpaceClauses.{Demand, IsClauseFor, IsDemand, group_of}
use Rattle.dist_space_clauses.specs.declared.ends.FutureEnds.{FutureEnds}

-- the demands of futures: the groups 1, 2, 3 and 6, that is, all but items, conflicts and required names
abbrev pub IsOfFuture : Demand → Type 0
IsOfFuture d = (group_of d ≤ 3) ⊎ (group_of d ≡ 6)

-- an assignment makes each clause of these demands true
abbrev pub MeetsFuture : SpaceView → List Bool → Type 0
MeetsFuture s values = (d : Demand) (clause : List Literal) → IsDemand s d → IsOfFuture d → IsClauseFor s d clause
    → MakesTrue (value_of values) clause

-- of the list of a space's clauses those of the groups 1 to 3 are true, and those of group 6, by where these groups end
abbrev pub AreTrueAround : (ℕ → Bool) → FutureEnds → List (List Literal) → Type 0
AreTrueAround value ends clauses = IsModel value (take ends.early clauses)
    × IsModel value (drop ends.today (take ends.after clauses))
