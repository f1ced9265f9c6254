use Rattle.std.proofs.Common.{◌≡◌, ℕ, ◌+◌, ◌<◌, ◌^◌, List, length}
use Rattle.dist_control.specs.Pieces.{IsFieldInFront}
use Rattle.dist_control.proofs.field.split_field.Given as goal

-- the continuation lines so far, and room for the numbers of the lines
abbrev pub invariant-loop-after : goal.invariant-loop-after
invariant-loop-after l =
    ((more : List (List ℕ)) × IsFieldInFront l.bytes l.line more l.rest × (l.next ≡ l.number + 1 + length more))
    × (l.next + length l.rest < 2 ^ 64) × (length l.rest < length l.bytes)

abbrev pub decreases-loop-after : goal.decreases-loop-after
decreases-loop-after l = length l.rest
