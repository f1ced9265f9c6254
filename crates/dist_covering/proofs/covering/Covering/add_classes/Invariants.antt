use Rattle.std.proofs.Common.{◌≢◌, ◌+◌, ◌-◌, ◌<◌, ℕ}
use Rattle.std.specs.List.{All}
use Rattle.dist_covering.specs.OpenPairs.{AreGathered, IsGathering}
use Rattle.dist_covering.specs.Used.{pair_at}
use Rattle.dist_covering.proofs.covering.Covering.add_classes.Given as goal

abbrev pub invariant-loop-back : goal.invariant-loop-back
invariant-loop-back l = (own : ℕ) → l.cluster ≢ own → AreGathered l.self l.window own l.number l.fn.ats.items
    → All (λ at. l.cluster + 1 < (pair_at l.self.space at).0) l.fn.ats.items
    → IsGathering l.self l.window own l.number l.cluster (l.classes - l.back) l.fn.ats.items l.ats.items
