use Rattle.std.proofs.Common.{◌≡◌, ◌++◌, take}
use Rattle.std.specs.List.{flat_map}
use Rattle.dist_relation.specs.Canonical.{behind_bar}
use Rattle.dist_relation.specs.WrittenPrivate.{AreAtoms}
use Rattle.dist_relation.proofs.printing.print_more.Given as goal

-- the atoms so far are printed
abbrev pub invariant-loop-atom : goal.invariant-loop-atom
invariant-loop-atom l = record {
  text : l.out.items ≡ l.fn.out.items ++ flat_map behind_bar (take l.atom-index l.atoms);
  valid : AreAtoms (take l.atom-index l.atoms);
}
