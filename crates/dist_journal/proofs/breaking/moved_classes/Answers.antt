use Rattle.std.proofs.Common.{◌≡◌, ◌∙◌, arith, length, ap, length-append, ◌∷◌, []}
use Rattle.dist_cluster.specs.Top.{ClusterList}
use Rattle.dist_space.specs.Space.{SpaceView}
use Rattle.dist_journal.specs.Broken.{IsMovedInto}
use Rattle.dist_journal.proofs.BreakingLemmas.{all-moved, moved-push}
use Rattle.dist_journal.proofs.breaking.moved_classes.Goals as goal

pub loop-cluster-preserved : goal.loop-cluster-preserved
loop-cluster-preserved c =
    let v = c.args.archive.now in
    let old = c.loop-cluster.moved.items in
    let last = c.moved_class.result in
    rw c.in_ok-push.ensures.items (record {
      many = let e = c.loop-cluster.invariant.many in omega (arith, e, length-append old (last ∷ []));
      each = moved-push (IsMovedInto v.space v.packages) old c.loop-cluster.cluster last c.loop-cluster.invariant.many
          c.loop-cluster.invariant.each c.moved_class.ensures;
    })

pub returns : goal.returns
returns c =
    let v = c.args.archive.now in
    let many : c.len-cluster-end.result ≡ length v.space.clusters.members = c.len-cluster-end.ensures
    ∙ ap (λ (l : ClusterList). length l.members) c.clusters.ensures ∙ ap (λ (x : SpaceView). length x.clusters.members) c.space.ensures in
    let inv = c.loop-cluster.invariant in
    let past = c.loop-cluster-test.false in
    all-moved v c.loop-cluster.moved.items (let e = inv.many in omega (arith, e, many, past))
    (λ k class short. inv.each k class (omega (arith, short, many, past)))
