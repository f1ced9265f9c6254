use Rattle.std.proofs.Common.{length}
use Rattle.dist_cert.specs.Rising.{is_among}
use Rattle.dist_report.specs.ClaimParts.{strong_on}
use Rattle.dist_report.proofs.TurnedLemmas.{AreTurned}
use Rattle.dist_report.proofs.impact.turned.Given as goal

abbrev pub invariant-loop-number : goal.invariant-loop-number
invariant-loop-number l = AreTurned (λ q claim. is_among (strong_on claim) q) l.claims (length l.claims) l.number l.lists.items
