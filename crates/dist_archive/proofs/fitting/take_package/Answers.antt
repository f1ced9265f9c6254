use Rattle.std.proofs.Common.{◌≡◌, ◌↔◌, ◌+◌, subst}
use Rattle.std.specs.Prelude.{IsTrue}
use Rattle.dist_repo.specs.PackageList.{IsPackageAnd, PackageList}
use Rattle.dist_classes.specs.NewVersion.{IsOfNewName}
use Rattle.dist_future.specs.Future.{IsProvided, IsTaken}
use Rattle.dist_archive.specs.FoundPrivate.{AreChecked}
use Rattle.dist_archive.specs.Reach.{IsFirstMisfit}
use Rattle.dist_archive.proofs.FoundLemmas.{alike-at, checked-fresh, fresh-misfit}
use Rattle.dist_archive.proofs.NameLemmas.{not-so, on-false, on-true}
use Rattle.dist_archive.proofs.fitting.take_package.Goals as goal

pub take_own-requires-clause-named : goal.take_own-requires-clause-named
take_own-requires-clause-named c =
    let named = subst (λ (r : PackageList). IsPackageAnd r.packages c.in-Some.number (λ p. p.name ≡ c.bytes.result.now)) c.repo-repo.ensures.value
    c.in-Some.ensures in
    alike-at c.args.space.now c.args.later.now.packages c.args.place c.in-Some.number c.package-candidate.result.now c.bytes.result.now
    c.package-candidate.ensures c.bytes.ensures.value named

pub is_fresh-requires : goal.is_fresh-requires
is_fresh-requires c = subst (λ name. ¬ IsTaken c.repo-repo.result.now name) c.bytes.ensures.value c.in-None.ensures

pub returns-in-None-clause-fits : goal.returns-in-None-clause-fits
returns-in-None-clause-fits c =
    let s = c.args.space.now in
    let n = c.package-candidate.result.now in
    let free = subst (λ (r : PackageList). ¬ IsTaken r n.name) c.repo-repo.ensures.value
    (subst (λ name. ¬ IsTaken c.repo-repo.result.now name) c.bytes.ensures.value c.in-None.ensures) in
    let test = subst (λ (r : PackageList). IsTrue c.is_fresh.result ↔ (IsOfNewName n.name n × (¬ IsProvided r n.name))) c.repo-repo.ensures.value
    c.is_fresh.ensures in
    on-true c.is_fresh.result (AreChecked s c.args.later.now.packages (c.args.place + 1) c.args.founds.now.items)
    (λ yes. checked-fresh s c.keeps_invariant.ensures.space.frame c.args.later.now.packages c.args.place c.args.founds.now.items
    c.requires.checked n c.package-candidate.ensures free (test.0 yes))

pub returns-in-None-clause-misfit : goal.returns-in-None-clause-misfit
returns-in-None-clause-misfit c =
    let s = c.args.space.now in
    let n = c.package-candidate.result.now in
    let free = subst (λ (r : PackageList). ¬ IsTaken r n.name) c.repo-repo.ensures.value
    (subst (λ name. ¬ IsTaken c.repo-repo.result.now name) c.bytes.ensures.value c.in-None.ensures) in
    let test = subst (λ (r : PackageList). IsTrue c.is_fresh.result ↔ (IsOfNewName n.name n × (¬ IsProvided r n.name))) c.repo-repo.ensures.value
    c.is_fresh.ensures in
    on-false c.is_fresh.result (IsFirstMisfit s.repository c.args.later.now.packages c.args.place)
    (λ no. fresh-misfit s c.keeps_invariant.ensures.space.frame c.args.later.now.packages c.args.place c.args.founds.now.items
    c.requires.checked n c.package-candidate.ensures free (not-so c.is_fresh.result test no))
