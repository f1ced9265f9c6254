use Rattle.std.proofs.Common.{◌≡◌}
use Rattle.dist_space_clauses.specs.GatheringPrivate.{IsFront}
use Rattle.dist_space_clauses.specs.GroupsPrivate.{number_of}
use Rattle.dist_space_clauses.proofs.groups.push_group.Given as goal

-- the clauses that the variables so far lead were added
abbrev pub invariant-loop-variable : goal.invariant-loop-variable
invariant-loop-variable l = record {
  same : l.partners ≡ l.initial.partners;
  front : IsFront l.space (number_of l.group) l.variable 0 l.initial.set l.set;
}
