use Rattle.std.proofs.Common.{◌≡◌, length, sym, subst, arith}
use Rattle.dist_search.specs.Trail.{IsOrdered}
use Rattle.dist_search.specs.Search.{SearchState, IsSearching}
use Rattle.dist_search.proofs.PrefixLemmas.{back_to_ground}
use Rattle.dist_search.proofs.search.Search.begin_again.Goals as goal

pub returns-then-levels-gt0-clause-searching : goal.returns-then-levels-gt0-clause-searching
returns-then-levels-gt0-clause-searching c clauses assumptions members h =
    let ordered = subst (λ (s : SearchState). IsOrdered s.trail) c.self.view_is c.keeps_invariant.ensures.ordered in
    let levels = subst (λ (s : SearchState). c.levels.result ≡ length s.trail.starts) c.self.view_is c.levels.ensures.value in
    subst (λ s. IsSearching clauses assumptions members s) (sym c.go_back.ensures)
    (back_to_ground clauses assumptions members ordered (omega (arith, c.if-levels-gt0.true, levels)) h)
