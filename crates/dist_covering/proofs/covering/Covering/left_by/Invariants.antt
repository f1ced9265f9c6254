use Rattle.std.proofs.Common.{◌≡◌, filter, not, take}
use Rattle.dist_covering.specs.OpenPairs.{covered_by}
use Rattle.dist_covering.proofs.covering.Covering.left_by.Given as goal

abbrev pub invariant-loop-at : goal.invariant-loop-at
invariant-loop-at l = l.left.items ≡ filter (λ at. not (covered_by l.self l.window l.number at)) (take l.at-index l.ats)
