use Rattle.std.proofs.Common.{ℕ, List, [], subst}
use Rattle.dist_now.specs.GatheringPrivate.{Adds}
use Rattle.dist_now.proofs.PairFronts.{seconds-are}
use Rattle.dist_now.proofs.VersionLemmas.{IsVersion}
use Rattle.dist_now.proofs.present_clauses.gather_apart.Goals as goal

pub returns-clause-exact : goal.returns-clause-exact
returns-clause-exact c =
    let versions : Adds [] c.add_versions.new.numbers.items (IsVersion c.args.repo.now c.args.first c.package.result.now.name) =
    subst (λ (xs : List ℕ). Adds xs c.add_versions.new.numbers.items (IsVersion c.args.repo.now c.args.first c.package.result.now.name)) c.clear.ensures.items
    c.in_ok-add_versions.ensures in
    seconds-are c.args.repo.now c.args.first c.package.result.now c.args.pairs.now c.add_versions.new.numbers.items c.add_partners.new.numbers.items
    c.put_in_order.new.numbers.items c.keeps_invariant.ensures.in_order c.package.ensures c.requires.exact
    versions c.in_ok-end.ensures.adds c.put_in_order.ensures.same
