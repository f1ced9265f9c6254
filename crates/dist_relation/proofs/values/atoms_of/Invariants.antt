use Rattle.std.proofs.Common.{◌≡◌, suc, length}
use Rattle.dist_base.specs.Ascii.{bar}
use Rattle.dist_relation.specs.declared.atom.Kind.TheVariants.{Depends}
use Rattle.dist_relation.specs.ReadingPrivate.{joined_at, atom_at, alternatives_at}
use Rattle.dist_relation.proofs.Loops.{with_front}
use Rattle.dist_relation.proofs.values.atoms_of.Given as goal

-- the atoms so far and those of what is left are the alternatives of the text
abbrev pub invariant-loop-atoms : goal.invariant-loop-atoms
invariant-loop-atoms l = with_front l.atoms.items (joined_at bar (atom_at Depends) (suc (length l.text)) l.text) ≡ alternatives_at l.fn.text

abbrev pub decreases-loop-atoms : goal.decreases-loop-atoms
decreases-loop-atoms l = length l.text
