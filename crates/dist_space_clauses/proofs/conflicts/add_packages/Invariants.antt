use Rattle.std.proofs.Common.{take}
use Rattle.std.specs.Prelude.{Any}
use Rattle.dist_space_clauses.specs.GatheringPrivate.{Gathers, IsLaterOf}
use Rattle.dist_space.specs.Space.{IsMatchedBy}
use Rattle.dist_space_clauses.specs.SpaceClauses.{Excludes}
use Rattle.dist_space_clauses.proofs.conflicts.add_packages.Given as goal

-- what the atom matches of those so far was added
abbrev pub invariant-loop-other : goal.invariant-loop-other
invariant-loop-other l =
    Gathers l.space l.initial.variables.items l.variables.items (Excludes l.space l.number l.package)
    (λ m. Any (λ other. (IsLaterOf other m × IsMatchedBy l.space l.atom m) × Excludes l.space l.number l.package m) (take l.other-index l.numbers))
