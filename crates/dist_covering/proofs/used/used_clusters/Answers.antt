use Rattle.std.proofs.Common.{◌∙◌, length, refl, subst, sym}
use Rattle.dist_covering.specs.Used.{AreUsed}
use Rattle.dist_covering.proofs.UsedSteps.{are-used}
use Rattle.dist_covering.proofs.used.used_clusters.Goals as goal

pub returns : goal.returns
returns c =
    subst (AreUsed c.args.space.now c.args.values.now) (sym (c.from_vec.ensures ∙ c.in_ok-used.ensures))
    (are-used c.args.space.now c.args.values.now c.in_ok-flags.flags (length c.args.space.now.meanings) c.keeps_invariant.ensures.space refl
    c.in_ok-flags.ensures)
