use Rattle.std.proofs.Common.{ℕ, List, refl, subst}
use Rattle.dist_repo.specs.Match.{IsUsable}
use Rattle.dist_repo.specs.Offers.{AreMatched}
use Rattle.dist_repo.specs.PackageList.{PackageList}
use Rattle.dist_repo.specs.Providers.{AreProviders}
use Rattle.dist_future.proofs.FoundLemmas.{any-later, any-present}
use Rattle.dist_future.proofs.found.found.Goals as goal

pub present_found-requires-clause-matched : goal.present_found-requires-clause-matched
present_found-requires-clause-matched c =
    subst (λ (r : PackageList). AreMatched r c.args.atom.now c.matched.result.now) c.repo-repo.ensures.value c.matched.ensures

pub moved_found-moved-requires-clause-providers : goal.moved_found-moved-requires-clause-providers
moved_found-moved-requires-clause-providers c =
    let numbers = c.providers-providers.result.now in
    subst (λ (name : List ℕ). AreProviders c.args.space.now.repository name numbers) c.bytes.ensures.value
    (subst (λ (r : PackageList). AreProviders r c.bytes.result.now numbers) c.repo-repo.ensures.value c.providers-providers.ensures)

pub returns-in-Some : goal.returns-in-Some
returns-in-Some c = any-present c.args.space.now c.args.members.now c.args.atom.now c.args.but c.in-Some.variable c.keeps_invariant.ensures.space
    (subst (λ (r : PackageList). IsUsable r.architecture c.args.atom.now.qualifier) c.repo-repo.ensures.value (c.if-not-usable.ensures.0 refl))
    c.in-Some.ensures

pub returns : goal.returns
returns c =
    any-later c.args.space.now c.args.members.now c.args.atom.now c.args.but c.moved_found-moved.result c.fresh_found.result c.lesser.result
    (subst (λ (r : PackageList). IsUsable r.architecture c.args.atom.now.qualifier) c.repo-repo.ensures.value (c.if-not-usable.ensures.0 refl))
    c.in_default.ensures c.lesser.ensures c.moved_found-moved.ensures c.fresh_found.ensures
