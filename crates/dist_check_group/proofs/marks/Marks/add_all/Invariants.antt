use Rattle.std.proofs.Common.{◌≡◌, ◌||◌, ℕ, take}
use Rattle.dist_cert.specs.Rising.{is_among}
use Rattle.dist_check_group.specs.MarksPrivate.{is_marked}
use Rattle.dist_check_group.proofs.marks.Marks.add_all.Given as goal

abbrev pub invariant-loop-number : goal.invariant-loop-number
invariant-loop-number l = (q : ℕ) → is_marked l.self q ≡ (is_marked l.initial.self q || is_among (take l.number-index l.numbers) q)
