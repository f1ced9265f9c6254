use Rattle.std.proofs.Common.{◌+◌, subst, sym}
use Rattle.dist_search.specs.Search.{SearchState, IsWatching}
use Rattle.dist_search.specs.contracts.search.Search.{the_view}
use Rattle.dist_search.proofs.CoverLemmas.{watching_stuck}
use Rattle.dist_search.proofs.search.Search.cover.Goals as goal

pub returns-then-is_empty-clause-watching : goal.returns-then-is_empty-clause-watching
returns-then-is_empty-clause-watching c =
    let clauses = c.args.log.now.clauses in
    watching_stuck clauses (the_view c.self.inside) (c.self.inside.watched + 1)
    (subst (λ (s : SearchState). IsWatching clauses s) (sym c.self.view_is) c.loop-self.invariant.watching)
