use Rattle.std.specs.Prelude.{◌≡◌, []}
use Rattle.dist_now.proofs.AddsLemmas.{AddsUpTo}
use Rattle.dist_now.proofs.NumberLemmas.{IsAtAnd}
use Rattle.dist_now.proofs.numbers.gather_named.Given as goal

-- the providers so far that have the name were added
abbrev pub invariant-loop-number : goal.invariant-loop-number
invariant-loop-number l = AddsUpTo [] l.numbers.items (IsAtAnd l.repo l.providers (λ p. p.name ≡ l.name)) l.number-index
