use Rattle.dist_relation.specs.declared.atom.Kind.TheVariants.{Depends, Conflicts, Provides}
use Rattle.dist_relation.specs.Grammar.{SpellsAtom, SpellsAlternatives, SpellsProvide}
use Rattle.dist_relation.specs.ReadingPrivate.{atom_at, alternatives_at, provide_at}
use Rattle.dist_relation.proofs.ThreeKinds.{alternatives_reader, conflict_reader, provide_reader, fault_comes}
use Rattle.dist_relation.proofs.laws.faults_come.Goals as goal

pub returns-clause-depends : goal.returns-clause-depends
returns-clause-depends c = fault_comes Depends SpellsAlternatives alternatives_at alternatives_reader

pub returns-clause-atoms : goal.returns-clause-atoms
returns-clause-atoms c = fault_comes Conflicts (SpellsAtom Conflicts) (atom_at Conflicts) conflict_reader

pub returns-clause-provides : goal.returns-clause-provides
returns-clause-provides c = fault_comes Provides SpellsProvide provide_at provide_reader
