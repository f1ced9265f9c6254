use Rattle.std.proofs.Common.{take}
use Rattle.dist_derive.proofs.GrowingLemmas.{IncludesSoFar}
use Rattle.dist_derive.proofs.variable_set.VariableSet.include_all.Given as goal

abbrev pub invariant-loop-literal : goal.invariant-loop-literal
invariant-loop-literal l = IncludesSoFar l.initial.self l.self l.grown (take l.literal-index l.clause)
