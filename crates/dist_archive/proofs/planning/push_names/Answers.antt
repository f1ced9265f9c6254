use Rattle.std.proofs.Common.{◌≡◌, [], ◌∷◌, None, arith}
use Rattle.dist_repo.specs.declared.package.Package.{Package}
use Rattle.dist_future.specs.Future.{IsTaken}
use Rattle.dist_archive.specs.declared.step.Step.TheVariants.{NewName}
use Rattle.dist_archive.proofs.PlanningLemmas.{pushed-all, pushed-more}
use Rattle.dist_archive.proofs.planning.push_names.Goals as goal

pub loop-place-preserved : goal.loop-place-preserved
loop-place-preserved c =
    pushed-more (λ (n : Package). ¬ IsTaken c.args.space.now.repository n.name)
    (λ n step. step ≡ NewName (record { architecture = None; packages = n ∷ [] })) c.args.later.now.packages c.loop-place.place c.package.result.now
    c.args.steps.now.items c.loop-place.steps.items c.push_name.new.steps.items c.package.ensures c.loop-place.invariant c.in_ok-push_name.ensures

pub returns : goal.returns
returns c =
    pushed-all (λ (n : Package). ¬ IsTaken c.args.space.now.repository n.name)
    (λ n step. step ≡ NewName (record { architecture = None; packages = n ∷ [] })) c.args.later.now.packages c.loop-place.place
    c.args.steps.now.items c.loop-place.steps.items (omega (arith, c.len-place-end.ensures.value)) c.loop-place.invariant
