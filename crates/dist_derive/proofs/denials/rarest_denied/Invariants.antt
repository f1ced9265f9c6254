use Rattle.dist_derive.specs.DenialsPrivate.{IsDenied}
use Rattle.dist_derive.proofs.denials.rarest_denied.Given as goal

abbrev pub invariant-loop-literal : goal.invariant-loop-literal
invariant-loop-literal l = IsDenied l.clause l.rarest
