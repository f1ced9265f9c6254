use Rattle.dist_repo.specs.Match.{Matches}
use Rattle.dist_now.proofs.AddsLemmas.{AddsUpTo}
use Rattle.dist_now.proofs.PairLemmas.{IsPairAt}
use Rattle.dist_now.proofs.rejections.add_matched.Given as goal

-- the pairs with the providers so far that the atom matches were added
abbrev pub invariant-loop-place : goal.invariant-loop-place
invariant-loop-place l = AddsUpTo l.initial.pairs.items l.pairs.items
    (IsPairAt l.repo l.span.start l.span.end l.number l.providers (Matches l.repo.architecture l.atom)) l.place
