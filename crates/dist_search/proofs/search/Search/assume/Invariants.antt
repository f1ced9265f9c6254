use Rattle.std.proofs.Common.{◌≡◌, take, replicate}
use Rattle.dist_search.proofs.search.Search.assume.Given as goal

abbrev pub invariant-loop-literal : goal.invariant-loop-literal
invariant-loop-literal l = l.self-inside ≡ record l.initial.self-inside {
  trail = record l.initial.self-inside.trail {
    literals = take l.literal-index l.assumptions;
    reasons = replicate l.literal-index 0;
  };
}
