use Rattle.std.proofs.Common.{◌≡◌, subst}
use Rattle.std.specs.Prelude.{OnOk}
use Rattle.dist_repo.specs.declared.package.Package.{Package}
use Rattle.dist_archive.specs.PlanningPrivate.{HoldsMore}
use Rattle.dist_archive.proofs.planning.put.Goals as goal

pub returns-clause-holds : goal.returns-clause-holds
returns-clause-holds c =
    subst (λ (p : Package). OnOk c.keep.result (HoldsMore c.args.builder.now c.keep.new.builder (λ n. p ≡ n))) c.in_ok-try_clone.ensures
    c.keep.ensures.holds
