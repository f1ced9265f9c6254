use Rattle.dist_asked.specs.AskedLaws.{IsAskedAnd}
use Rattle.dist_now.proofs.AddsLemmas.{AddsUpTo}
use Rattle.dist_now.proofs.PairLemmas.{IsRejectedAt}
use Rattle.dist_now.proofs.rejections.add_asked.Given as goal

-- the pairs of the atoms so far were added, of those that are asked
abbrev pub invariant-loop-place : goal.invariant-loop-place
invariant-loop-place l = AddsUpTo l.initial.pairs.items l.pairs.items
    (IsAskedAnd l.asked (IsRejectedAt l.repo l.span.start l.span.end l.number l.package.conflicts)) l.place
