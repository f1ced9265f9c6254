use Rattle.std.proofs.Common.{◌∷◌, ◌++◌, ◌∙◌, ap, List, [], ℕ}
use Rattle.dist_check.proofs.Laid.{variables-more}
use Rattle.dist_check.proofs.layout.class_variables.Goals as goal

pub loop-class-preserved : goal.loop-class-preserved
loop-class-preserved c =
    c.in_ok-push.ensures.items ∙ ap (λ (xs : List ℕ). xs ++ c.variable.result ∷ []) c.loop-class.invariant
    ∙ variables-more c.args.space.now c.args.cluster c.loop-class.class c.variable.result c.variable.ensures.value
