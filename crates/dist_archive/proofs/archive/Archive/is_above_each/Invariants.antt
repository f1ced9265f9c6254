use Rattle.std.proofs.Common.{ℕ, ◌<◌, get_or}
use Rattle.dist_archive.specs.UploadsPrivate.{IsAboveHeld}
use Rattle.dist_archive.proofs.archive.Archive.is_above_each.Given as goal

abbrev pub invariant-loop-member : goal.invariant-loop-member
invariant-loop-member l = (j : ℕ) → j < l.member-index → IsAboveHeld l.self (get_or l.members j 0) l.version
