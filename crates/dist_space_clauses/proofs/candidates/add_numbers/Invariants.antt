use Rattle.dist_asked.specs.Asked.{Adds}
use Rattle.dist_space_clauses.proofs.CandidateLemmas.{IsOfFirst}
use Rattle.dist_space_clauses.proofs.candidates.add_numbers.Given as goal

-- the packages of the offers so far were added
abbrev pub invariant-loop-offer : goal.invariant-loop-offer
invariant-loop-offer l = Adds l.initial.numbers.items l.numbers.items (IsOfFirst l.offers l.offer-index)
