use Rattle.dist_relation.specs.declared.atom.Kind.TheVariants.{Depends, Conflicts, Provides}
use Rattle.dist_relation.specs.Grammar.{SpellsAtom, SpellsAlternatives, SpellsProvide}
use Rattle.dist_relation.specs.ReadingPrivate.{atom_at, alternatives_at, provide_at}
use Rattle.dist_relation.proofs.ThreeKinds.{alternatives_reader, conflict_reader, provide_reader, one_answer}
use Rattle.dist_relation.proofs.laws.values_are_exact.Goals as goal

pub returns-clause-depends : goal.returns-clause-depends
returns-clause-depends c = one_answer Depends SpellsAlternatives alternatives_at alternatives_reader

pub returns-clause-atoms : goal.returns-clause-atoms
returns-clause-atoms c = one_answer Conflicts (SpellsAtom Conflicts) (atom_at Conflicts) conflict_reader

pub returns-clause-provides : goal.returns-clause-provides
returns-clause-provides c = one_answer Provides SpellsProvide provide_at provide_reader
