use Rattle.std.proofs.Common.{◌≡◌, replicate}
use Rattle.dist_archive.specs.declared.members.Members.TheVariants as among
use Rattle.dist_archive.proofs.members.Held.new.Given as goal

abbrev pub invariant-loop-number : goal.invariant-loop-number
invariant-loop-number l = l.all.items ≡ replicate l._number among.Every
