use Rattle.std.proofs.Common.{take}
use Rattle.std.specs.Prelude.{Any}
use Rattle.dist_space_clauses.specs.GatheringPrivate.{Gathers, IsLaterOf}
use Rattle.dist_space.specs.Space.{IsMatchedBy}
use Rattle.dist_space_clauses.proofs.MatchLemmas.{MatchedAnd}
use Rattle.dist_space_clauses.proofs.items.add_packages.Given as goal

-- what the atom matches of those so far was added
abbrev pub invariant-loop-number : goal.invariant-loop-number
invariant-loop-number l =
    Gathers l.space l.initial.variables.items l.variables.items (IsMatchedBy l.space l.atom)
    (λ m. Any (λ number. MatchedAnd l.space l.atom (IsLaterOf number) m) (take l.number-index l.numbers))
