use Rattle.dist_quick.proofs.forward.State.visit.Given as goal

-- each link leads to one before it
abbrev pub decreases-loop-link : goal.decreases-loop-link
decreases-loop-link l = l.place
