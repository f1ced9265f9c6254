use Rattle.dist_relation.specs.declared.atom.Kind.TheVariants.{Conflicts}
use Rattle.dist_relation.specs.Grammar.{SpellsAtom}
use Rattle.dist_relation.specs.ReadingPrivate.{atom_at}
use Rattle.dist_relation.proofs.ThreeKinds.{conflict_reader, conflict_shorter, value_reads, read_fits, read_fault}
use Rattle.dist_relation.proofs.values.read_atoms.Goals as goal

pub entries_of-requires : goal.entries_of-requires
entries_of-requires c = conflict_shorter

pub in_value-requires : goal.in_value-requires
in_value-requires c = read_fits Conflicts (SpellsAtom Conflicts) (atom_at Conflicts) conflict_reader c.in-Err.error c.args.value.now c.in-Err.ensures

pub returns-in-Ok : goal.returns-in-Ok
returns-in-Ok c = rw c.from_vec.ensures (value_reads Conflicts (SpellsAtom Conflicts) (atom_at Conflicts) conflict_reader c.args.value.now c.in-Ok.entries.items
    c.in-Ok.ensures)

pub returns-in-Err : goal.returns-in-Err
returns-in-Err c = rw c.in_value.ensures (read_fault Conflicts (SpellsAtom Conflicts) (atom_at Conflicts) conflict_reader c.in-Err.error c.args.value.now
    c.in-Err.ensures)
