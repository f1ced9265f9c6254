use Rattle.std.proofs.Common.{◌≡◌, ◌<◌, ℕ, ap, arith, get_or, length, subst}
use Rattle.std.proofs.lemmas.Option.{slice_get-get_or}
use Rattle.dist_cluster.specs.Top.{ClusterList}
use Rattle.dist_archive.specs.Reach.{AreParts}
use Rattle.dist_archive.specs.declared.fitting.Found.TheVariants.{Nothing}
use Rattle.dist_archive.proofs.PlanningLemmas.{parts-more}
use Rattle.dist_archive.proofs.planning.steps_of_clusters.Goals as goal

pub push_part-requires-clause-found : goal.push_part-requires-clause-found
push_part-requires-clause-found c = λ p of.
    let count = ap (λ (l : ClusterList). length l.members) c.clusters.ensures in
    let short : c.loop-cluster.cluster < length c.args.founds.now =
    omega (arith, c.loop-cluster-test.true, c.len-cluster-end.ensures, count, c.requires.checked.beside) in
    c.requires.checked.each c.loop-cluster.cluster p (get_or c.args.founds.now c.loop-cluster.cluster Nothing) of
    (slice_get-get_or c.args.founds.now c.loop-cluster.cluster Nothing short)

pub loop-cluster-preserved : goal.loop-cluster-preserved
loop-cluster-preserved c =
    parts-more c.args.space.now c.args.later.now.packages c.loop-cluster.cluster c.loop-cluster.steps.items c.push_part.new.steps.items
    c.loop-cluster.invariant c.in_ok-push_part.ensures

pub returns : goal.returns
returns c =
    let count = ap (λ (l : ClusterList). length l.members) c.clusters.ensures in
    let at : c.loop-cluster.cluster ≡ length c.args.space.now.clusters.members = omega (arith, c.len-cluster-end.ensures, count) in
    subst (λ (k : ℕ). AreParts c.args.space.now c.args.later.now.packages k c.loop-cluster.steps.items) at c.loop-cluster.invariant
