use Rattle.std.proofs.Common.{◌-◌, ◌≤◌, length}
use Rattle.dist_now.specs.GatheringPrivate.{IsFront}
use Rattle.dist_now.specs.PresentClauses.{Apart}
use Rattle.dist_now.proofs.present_clauses.push_pairs.Given as goal

-- the clauses before this package's pairs are there
abbrev pub invariant-loop-first : goal.invariant-loop-first
invariant-loop-first l = (l.first ≤ length l.repo.packages) × IsFront l.repo (Apart l.first 0) l.initial.set l.set

abbrev pub decreases-loop-first : goal.decreases-loop-first
decreases-loop-first l = length l.repo.packages - l.first
