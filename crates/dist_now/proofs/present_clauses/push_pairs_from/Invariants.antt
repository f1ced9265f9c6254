use Rattle.dist_now.specs.GatheringPrivate.{AreSplitAt, IsFront}
use Rattle.dist_now.specs.PresentClauses.{Apart}
use Rattle.dist_now.proofs.present_clauses.push_pairs_from.Given as goal

-- the clauses before this package's pairs are there, and its rejecting pairs begin at the place
abbrev pub invariant-loop-first : goal.invariant-loop-first
invariant-loop-first l = IsFront l.repo (Apart l.first 0) l.initial.set l.set × AreSplitAt l.pairs l.first l.start
