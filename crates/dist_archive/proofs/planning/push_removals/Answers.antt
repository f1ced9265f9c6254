use Rattle.std.proofs.Common.{◌≡◌, ℕ, arith, get_or}
use Rattle.dist_repo.specs.PackageList.{IsPackageAnd}
use Rattle.dist_archive.specs.Steps.{IsHeld}
use Rattle.dist_archive.specs.declared.step.Step.TheVariants.{Removal}
use Rattle.std.proofs.lemmas.Option.{slice_get-get_or}
use Rattle.dist_archive.proofs.PlanningLemmas.{pushed-all, pushed-more, removal-pushed}
use Rattle.dist_archive.proofs.planning.push_removals.Goals as goal

pub loop-member-preserved : goal.loop-member-preserved
loop-member-preserved c =
    let r = c.args.space.now.repository in
    let later = c.args.later.now.packages in
    let m : ℕ = get_or c.args.members.now c.loop-member.member-index 0 in
    pushed-more (λ m. IsPackageAnd r.packages m (λ q. ¬ IsHeld later q.name)) (λ m step. IsPackageAnd r.packages m (λ q. step ≡ Removal q.name))
    c.args.members.now c.loop-member.member-index m c.args.steps.now.items c.loop-member.steps.items c.push_removal.new.steps.items
    (slice_get-get_or c.args.members.now c.loop-member.member-index 0 (omega arith)) c.loop-member.invariant
    (removal-pushed r later m c.package.result.now c.loop-member.steps.items c.push_removal.new.steps.items c.package.ensures.value
    c.in_ok-push_removal.ensures)

pub returns : goal.returns
returns c =
    let r = c.args.space.now.repository in
    let later = c.args.later.now.packages in
    pushed-all (λ m. IsPackageAnd r.packages m (λ q. ¬ IsHeld later q.name)) (λ m step. IsPackageAnd r.packages m (λ q. step ≡ Removal q.name))
    c.args.members.now c.loop-member.member-index c.args.steps.now.items c.loop-member.steps.items (omega arith) c.loop-member.invariant
