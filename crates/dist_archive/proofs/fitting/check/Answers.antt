use Rattle.std.proofs.Common.{◌≡◌, ℕ, ap, arith, length, subst, ◌∙◌}
use Rattle.dist_cluster.specs.Top.{ClusterList}
use Rattle.dist_archive.specs.FoundPrivate.{AreChecked}
use Rattle.dist_archive.proofs.FoundLemmas.{checked-none}
use Rattle.dist_archive.proofs.fitting.check.Goals as goal

pub loop-place-init : goal.loop-place-init
loop-place-init c =
    checked-none c.args.space.now c.keeps_invariant.ensures.space.frame c.args.later.now.packages c.in_ok-founds.founds.items c.len.result
    c.in_ok-founds.ensures (c.len.ensures ∙ ap (λ (l : ClusterList). length l.members) c.clusters.ensures)

pub returns : goal.returns
returns c =
    let at : c.loop-place.place ≡ length c.args.later.now.packages = omega (arith, c.len-place-end.ensures.value) in
    subst (λ (k : ℕ). AreChecked c.args.space.now c.args.later.now.packages k c.loop-place.founds.items) at c.loop-place.invariant
