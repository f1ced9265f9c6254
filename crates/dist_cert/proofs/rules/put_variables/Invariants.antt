use Rattle.std.proofs.Common.{◌≡◌, map, take}
use Rattle.dist_cert.proofs.rules.put_variables.Given as goal

-- the variables before the place
abbrev pub invariant-loop-literal : goal.invariant-loop-literal
invariant-loop-literal l = l.variables.items ≡ map (λ w. w.0) (take l.literal-index l.literals)
