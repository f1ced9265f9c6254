use Rattle.std.proofs.Common.{Bool, List, subst, sym}
use Rattle.dist_asked.specs.AskedPlaces.{AreEnough}
use Rattle.dist_asked.proofs.MarkLemmas.{enough-all}
use Rattle.dist_asked.proofs.places.AskedPlaces.all.Goals as goal

pub returns-clause-enough : goal.returns-clause-enough
returns-clause-enough c = λ atoms. subst (λ (marks : List Bool). AreEnough atoms marks) (sym c.new.ensures.items) (enough-all atoms)
