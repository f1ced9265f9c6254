use Rattle.std.proofs.Common.{◌-◌, length}
use Rattle.dist_search.proofs.CoverLemmas.{Covers}
use Rattle.dist_search.proofs.search.Search.cover.Given as goal

abbrev pub invariant-loop-self : goal.invariant-loop-self
invariant-loop-self l = Covers l.log.clauses l.initial.self l.self

abbrev pub decreases-loop-self : goal.decreases-loop-self
decreases-loop-self l = length l.log.clauses - l.self.watched
