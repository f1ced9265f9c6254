use Rattle.std.specs.Prelude.{[]}
use Rattle.dist_now.proofs.AddsLemmas.{AddsUpTo}
use Rattle.dist_now.proofs.PairLemmas.{IsPairOfPackage}
use Rattle.dist_now.proofs.rejections.rejections.Given as goal

-- the pairs of the packages so far were added
abbrev pub invariant-loop-number : goal.invariant-loop-number
invariant-loop-number l = AddsUpTo [] l.pairs.items (IsPairOfPackage l.repo l.span.start l.span.end) l.number
