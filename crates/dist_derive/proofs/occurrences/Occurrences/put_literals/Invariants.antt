use Rattle.std.proofs.Common.{take}
use Rattle.std.specs.List.{All}
use Rattle.dist_derive.specs.OccurrencesPrivate.{code_of, IsListed, Extends}
use Rattle.dist_derive.proofs.occurrences.Occurrences.put_literals.Given as goal

abbrev pub invariant-loop-literal : goal.invariant-loop-literal
invariant-loop-literal l = Extends l.initial.self l.self l.number × All (λ m. IsListed l.self (code_of m) l.number) (take l.literal-index l.clause)
