use Rattle.std.proofs.Common.{◌≡◌}
use Rattle.std.proofs.lemmas.Result.{on_ok_weaker}
use Rattle.dist_base.specs.ListLaws.{contains-at, has-at, within-from}
use Rattle.dist_repo.specs.declared.package.Package.{Package}
use Rattle.dist_archive.proofs.PlanningLemmas.{named-more, named-none}
use Rattle.dist_archive.proofs.planning.put_named.Goals as goal

pub package-requires : goal.package-requires
package-requires c =
    within-from (λ (p : Package). p.name ≡ c.args.name.now) c.args.later.now.packages c.in-Some.number c.in-Some.ensures

pub returns-in-Some-clause-holds : goal.returns-in-Some-clause-holds
returns-in-Some-clause-holds c =
    let later = c.args.later.now.packages in
    let p : Package = c.package.result.now in
    on_ok_weaker c.put.result (named-more later c.args.builder.now c.put.new.builder p c.args.name.now c.requires.flat
    (contains-at later c.in-Some.number p c.package.ensures)
    (has-at (λ (x : Package). x.name ≡ c.args.name.now) later c.in-Some.number p c.package.ensures c.in-Some.ensures)) c.put.ensures.holds

pub returns-in-None-clause-holds : goal.returns-in-None-clause-holds
returns-in-None-clause-holds c = named-none c.args.later.now.packages c.args.builder.now c.args.name.now c.in-None.ensures
