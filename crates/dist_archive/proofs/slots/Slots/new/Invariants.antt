use Rattle.std.proofs.Common.{◌≡◌, replicate}
use Rattle.dist_archive.specs.declared.slots.Slot.TheVariants as slot
use Rattle.dist_archive.proofs.slots.Slots.new.Given as goal

abbrev pub invariant-loop-number : goal.invariant-loop-number
invariant-loop-number l = l.slots.items ≡ replicate l._number slot.Kept
