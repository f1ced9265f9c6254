use Rattle.std.proofs.Common.{◌-◌, length}
use Rattle.dist_now.proofs.AddsLemmas.{AddsUpTo}
use Rattle.dist_now.proofs.PartnerLemmas.{IsPartnerAt, ArePassed}
use Rattle.dist_now.proofs.rejections.add_partners.Given as goal

-- the second numbers so far were added
abbrev pub invariant-loop-place : goal.invariant-loop-place
invariant-loop-place l = ArePassed l.pairs l.number l.start l.place × AddsUpTo l.initial.numbers.items l.numbers.items (IsPartnerAt l.pairs l.start) l.place

abbrev pub decreases-loop-place : goal.decreases-loop-place
decreases-loop-place l = length l.pairs - l.place
