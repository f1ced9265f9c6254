use Rattle.dist_derive.proofs.true_literals.TrueLiterals.status.Goals as goal

pub returns-then-is_false : goal.returns-then-is_false
returns-then-is_false c =
    let is_false = c.is_false.ensures.0 c.if-is_false.true in
    (λ h. c.keeps_invariant.ensures c.args.literal h is_false, is_false)
