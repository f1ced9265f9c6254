use Rattle.dist_space_clauses.specs.GatheringPrivate.{IsFront}
use Rattle.dist_space_clauses.specs.GroupsPrivate.{group_for}
use Rattle.dist_space_clauses.proofs.led_clauses.push_later.Given as goal

-- the clauses with the classes so far were added
abbrev pub invariant-loop-later : goal.invariant-loop-later
invariant-loop-later l = IsFront l.space (group_for l.classed) l.variable l.later l.initial.set l.set
