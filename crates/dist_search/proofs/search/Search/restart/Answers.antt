use Rattle.std.proofs.Common.{sym, subst}
use Rattle.dist_search.specs.Search.{IsSearching}
use Rattle.dist_search.proofs.search.Search.restart.Goals as goal

pub returns-clause-searching : goal.returns-clause-searching
returns-clause-searching c clauses assumptions members h =
    subst (λ s. IsSearching clauses assumptions members s) (sym c.turn.ensures)
    (c.begin_again.ensures.searching clauses assumptions members (subst (λ s. IsSearching clauses assumptions members s) (sym c.self.view_is) h))
