use Rattle.std.proofs.Common.{take}
use Rattle.std.specs.List.{flat_map}
use Rattle.dist_space.specs.Kept.{IsExtended}
use Rattle.dist_space.specs.NumberingPrivate.{member_part}
use Rattle.dist_space.proofs.numbering.add_members.Given as goal

abbrev pub invariant-loop-member : goal.invariant-loop-member
invariant-loop-member l = IsExtended l.limit l.initial.meanings.items (flat_map (member_part l.frame l.class) (take l.member-index l.members)) l.meanings.items
