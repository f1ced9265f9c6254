use Rattle.dist_now.specs.NoneAskedLaws.{IsNoneAsked}
use Rattle.dist_repo.specs.Match.{Matches}
use Rattle.dist_explain.proofs.relations.meets.Given as goal

-- no alternative so far is met, of those that are asked
abbrev pub invariant-loop-place : goal.invariant-loop-place
invariant-loop-place l = IsNoneAsked (λ atom. Matches l.repo.architecture atom l.«package») l.alternatives l.asked l.place
