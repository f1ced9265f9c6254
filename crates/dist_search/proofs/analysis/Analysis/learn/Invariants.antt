use Rattle.std.proofs.Common.{◌≤◌, length, take}
use Rattle.dist_clause.specs.ClauseList.{clause_at}
use Rattle.dist_derive.specs.Propagation.{AllFalse}
use Rattle.dist_search.specs.AnalysisPrivate.{IsWalked, LeadsToPoint}
use Rattle.dist_search.proofs.analysis.Analysis.learn.Given as goal

abbrev pub invariant-loop-place : goal.invariant-loop-place
invariant-loop-place l = (l.place ≤ length l.trail.literals)
    × IsWalked l.log (take l.bounds.assumed l.trail.literals) l.trail l.bounds.current l.place l.self-inside.walk
    × ((¬ AllFalse (take l.bounds.current l.trail.literals) (clause_at l.log.clauses l.conflict))
    → LeadsToPoint l.trail.literals l.bounds.current l.place l.self-inside.walk)

abbrev pub decreases-loop-place : goal.decreases-loop-place
decreases-loop-place l = l.place
