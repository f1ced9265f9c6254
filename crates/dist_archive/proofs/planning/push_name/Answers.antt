use Rattle.std.proofs.Common.{ap, inl, inr, refl, subst}
use Rattle.dist_repo.specs.PackageList.{PackageList}
use Rattle.dist_future.specs.Future.{IsTaken}
use Rattle.dist_archive.specs.declared.step.Step.TheVariants.{NewName}
use Rattle.dist_archive.proofs.NameLemmas.{not-so}
use Rattle.dist_archive.proofs.planning.push_name.Goals as goal

pub returns-then-is_named : goal.returns-then-is_named
returns-then-is_named c =
    let taken = subst (λ (r : PackageList). IsTaken r c.args.fresh.now.name) c.repo.ensures.value
    (subst (λ name. IsTaken c.repo.result.now name) c.bytes.ensures.value (c.is_named.ensures.0 c.if-is_named.true)) in
    inr ((λ free. free taken), refl)

pub returns : goal.returns
returns c =
    let free = subst (λ (r : PackageList). ¬ IsTaken r c.args.fresh.now.name) c.repo.ensures.value
    (subst (λ name. ¬ IsTaken c.repo.result.now name) c.bytes.ensures.value (not-so c.is_named.result c.is_named.ensures c.if-is_named.false)) in
    inl (free, (NewName c.in_ok-block_of_one.field-0, ap (λ (b : PackageList). NewName b) c.in_ok-block_of_one.ensures, c.in_ok-push.ensures.items))
