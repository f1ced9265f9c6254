use Rattle.dist_repo.specs.Match.{Matches}
use Rattle.dist_now.proofs.AddsLemmas.{AddsUpTo}
use Rattle.dist_now.proofs.NumberLemmas.{IsAtAnd}
use Rattle.dist_now.proofs.numbers.add_provided.Given as goal

-- the providers so far that the atom matches were added
abbrev pub invariant-loop-number : goal.invariant-loop-number
invariant-loop-number l = AddsUpTo l.initial.numbers.items l.numbers.items (IsAtAnd l.repo l.providers (Matches l.repo.architecture l.atom)) l.number-index
