-- Where a group ends, by the count of the clauses before the next one.
use Rattle.std.proofs.Common.{ℕ, ◌+◌, ◌<◌, ◌≤◌, List, arith, subst}
use Rattle.dist_clause.specs.DemandLaws as made
use Rattle.dist_clause.specs.Formula.{Literal}
use Rattle.dist_space.specs.Space.{SpaceView}
use Rattle.dist_space_clauses.specs.EndLaws.{end-of}
use Rattle.dist_space_clauses.specs.Ends.{AreEndsOf, IsEndOf}
use Rattle.dist_space_clauses.specs.GatheringPrivate.{HasCount, HaveCounts}
use Rattle.dist_space_clauses.specs.SpaceClauses.{AreSpaceClauses, IsDemand, group_of, space_demands}
use Rattle.dist_space_clauses.specs.declared.ends.FutureEnds.{FutureEnds}

ended : (s : SpaceView) (group count : ℕ) (clauses : List (List Literal)) → AreSpaceClauses s clauses → HasCount s (group + 1) count
    → IsEndOf s group clauses count
ended s group count clauses are has =
    subst (IsEndOf s group clauses) has.count_is (end-of s group clauses are has.front
    (made.clauses-shift (space_demands s) (λ d. IsDemand s d × (group_of d < group + 1)) (λ d. IsDemand s d × (group_of d ≤ group)) has.front
    (λ d h. (h.0, omega (arith, h.1))) (λ d h. (h.0, omega (arith, h.1))) has.are))

pub three-ends : (s : SpaceView) (clauses : List (List Literal)) (ends : FutureEnds) → AreSpaceClauses s clauses → HaveCounts s ends
    → AreEndsOf s clauses ends
three-ends s clauses ends are have = record {
  early = ended s 3 ends.early clauses are have.early;
  today = ended s 5 ends.today clauses are have.today;
  after = ended s 6 ends.after clauses are have.after;
}
