use Rattle.std.proofs.Common.{arith}
use Rattle.dist_covering.proofs.UsedSteps.{flags-next, flags-past}
use Rattle.dist_covering.proofs.used.used_flags.Goals as goal

pub variables-preserved-in-Some : goal.variables-preserved-in-Some
variables-preserved-in-Some c =
    let some = c.in-Some.ensures.some in
    record {
      within = omega (arith, some.2, c.requires);
      flags = flags-next c.args.space.now c.args.values.now c.variables.flags c.flag.new.flags c.variables.last c.in-Some.variable (omega (arith, some.1))
          (λ w above within. some.4 w (omega (arith, above)) (omega (arith, above)) within) some.3 c.flag.ensures c.variables.invariant.flags;
    }

pub variables-preserved : goal.variables-preserved
variables-preserved c =
    let all = c.variables-variables.ensures.value in
    record {
      within = omega (arith, all);
      flags = flags-past c.args.space.now c.args.values.now c.variables.flags c.variables.last c.variables-variables.result
          (omega (arith, all, c.variables.invariant.within))
          (λ w above within. c.in-None.ensures.none w (omega (arith, above)) (omega (arith, above)) (omega (arith, within, all, c.requires)))
          c.variables.invariant.flags;
    }
