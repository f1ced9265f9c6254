use Rattle.std.proofs.Common.{ℕ, List, subst}
use Rattle.dist_repo.specs.Offers.{AreMatched}
use Rattle.dist_repo.specs.PackageList.{PackageList}
use Rattle.dist_repo.specs.Providers.{AreProviders}
use Rattle.dist_space_clauses.proofs.items.add_present.Goals as goal

pub add_offered-requires : goal.add_offered-requires
add_offered-requires c = subst (λ (r : PackageList). AreMatched r c.args.atom.now c.matched.result.now) c.repo-repo.ensures.value c.matched.ensures

pub add_provided-requires-clause-providers : goal.add_provided-requires-clause-providers
add_provided-requires-clause-providers c =
    subst (λ (r : PackageList). AreProviders r c.args.atom.now.name c.providers.result.now) c.repo-repo.ensures.value
    (subst (λ (name : List ℕ). AreProviders c.repo-repo.result.now name c.providers.result.now) c.bytes.ensures.value c.providers.ensures)
