use Rattle.std.proofs.Common.{◌≡◌, Some, slice_get, subst}
use Rattle.std.proofs.lemmas.Result.{on_ok_weaker}
use Rattle.dist_cluster.specs.Top.{ClusterList}
use Rattle.dist_archive.proofs.PlanningLemmas.{are-members, missing-pushed}
use Rattle.dist_archive.proofs.planning.push_missing.Goals as goal

pub push_removals-requires : goal.push_removals-requires
push_removals-requires c =
    let are = subst (λ (l : ClusterList). slice_get l.members c.args.cluster ≡ Some c.members.result.now) c.clusters.ensures c.members.ensures in
    (are-members c.args.space.now c.keeps_invariant.ensures.space.frame c.args.later.now.packages c.args.cluster c.members.result.now are).within

pub returns : goal.returns
returns c =
    let are = subst (λ (l : ClusterList). slice_get l.members c.args.cluster ≡ Some c.members.result.now) c.clusters.ensures c.members.ensures in
    on_ok_weaker c.push_removals.result
    (missing-pushed c.args.space.now c.keeps_invariant.ensures.space.frame c.args.later.now.packages c.args.cluster c.members.result.now are
    c.requires.none c.args.steps.now.items c.push_removals.new.steps.items) c.push_removals.ensures
