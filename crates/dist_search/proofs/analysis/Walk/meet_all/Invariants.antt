use Rattle.std.proofs.Common.{take}
use Rattle.dist_search.specs.AnalysisPrivate.{Meets}
use Rattle.dist_search.proofs.analysis.Walk.meet_all.Given as goal

abbrev pub invariant-loop-literal : goal.invariant-loop-literal
invariant-loop-literal l = Meets l.trail.literals l.bounds.current (take l.literal-index l.clause) l.initial.self l.self
