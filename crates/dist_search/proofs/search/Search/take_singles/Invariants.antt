use Rattle.std.proofs.Common.{take}
use Rattle.dist_search.proofs.SinglesLemmas.{Takes}
use Rattle.dist_search.proofs.search.Search.take_singles.Given as goal

abbrev pub invariant-loop-variable : goal.invariant-loop-variable
invariant-loop-variable l = Takes l.cone.members (take l.variable-index l.variable-items) l.initial.self l.self
