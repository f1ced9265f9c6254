use Rattle.std.proofs.Common.{take}
use Rattle.dist_archive.specs.SlotsPrivate.{AreReplacements}
use Rattle.dist_archive.proofs.uploads.replacements.Given as goal

abbrev pub invariant-loop-member : goal.invariant-loop-member
invariant-loop-member l = AreReplacements l.space.repository.packages l.block.packages (take l.member-index l.members) l.slots.items
