use Rattle.std.proofs.Common.{refl, subst}
use Rattle.dist_repo.specs.Match.{IsUsable}
use Rattle.dist_repo.specs.PackageList.{PackageList}
use Rattle.dist_space_clauses.proofs.items.add_matched.Goals as goal

pub add_usable-added-requires-clause-usable : goal.add_usable-added-requires-clause-usable
add_usable-added-requires-clause-usable c =
    subst (λ (r : PackageList). IsUsable r.architecture c.args.atom.now.qualifier) c.repo.ensures.value (c.if-not-usable.ensures.0 refl)
