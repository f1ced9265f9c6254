use Rattle.std.proofs.Common.{length}
use Rattle.dist_relation.specs.declared.atom.Kind.TheVariants.{Conflicts}
use Rattle.dist_relation.specs.Grammar.{SpellsAtom, SpellsAlternatives, SpellsProvide}
use Rattle.dist_relation.proofs.Lengths.{atom-takes, alternatives-take, provide-takes, reads-takes, counted, items-some}
use Rattle.dist_relation.proofs.laws.items_take_bytes.Goals as goal

pub returns-clause-depends : goal.returns-clause-depends
returns-clause-depends c = reads-takes (λ item. length item) SpellsAlternatives alternatives-take

pub returns-clause-atoms : goal.returns-clause-atoms
returns-clause-atoms c = counted (SpellsAtom Conflicts) (atom-takes Conflicts)

pub returns-clause-provides : goal.returns-clause-provides
returns-clause-provides c = counted SpellsProvide provide-takes

pub returns-clause-some : goal.returns-clause-some
returns-clause-some c = items-some
