use Rattle.dist_asked.specs.AskedLaws.{IsAskedAnd}
use Rattle.dist_now.proofs.AddsLemmas.{AddsUpTo}
use Rattle.dist_now.specs.GatheringPrivate.{IsMatchedAt}
use Rattle.dist_now.proofs.numbers.add_asked.Given as goal

-- what the alternatives so far match was added, of those that are asked
abbrev pub invariant-loop-place : goal.invariant-loop-place
invariant-loop-place l = AddsUpTo l.initial.numbers.items l.numbers.items (IsAskedAnd l.asked (IsMatchedAt l.repo l.alternatives)) l.place
