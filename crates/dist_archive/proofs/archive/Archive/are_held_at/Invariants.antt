use Rattle.std.proofs.Common.{ℕ, ◌<◌, get_or}
use Rattle.dist_archive.specs.MovedPrivate.{IsHeldAt}
use Rattle.dist_archive.proofs.archive.Archive.are_held_at.Given as goal

abbrev pub invariant-loop-member : goal.invariant-loop-member
invariant-loop-member l = (j : ℕ) → j < l.member-index → IsHeldAt l.self (get_or l.members j 0) l.version
