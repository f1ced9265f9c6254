use Rattle.std.specs.List.{AllWithin}
use Rattle.dist_relation.specs.declared.atom.Atom.{Atom}
use Rattle.dist_repo.specs.Match.{Matches}
use Rattle.dist_repo.proofs.matching.rejects.Given as goal

abbrev pub invariant-loop-place : goal.invariant-loop-place
invariant-loop-place l = AllWithin (λ (atom : Atom). ¬ Matches l.architecture atom l.second) l.first.conflicts 0 l.place
