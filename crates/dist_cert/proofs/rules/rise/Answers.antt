use Rattle.std.proofs.Common.{arith, refl}
use Rattle.dist_cert.proofs.RuleLemmas.{rises}
use Rattle.dist_cert.proofs.rules.rise.Goals as goal

pub returns : goal.returns
returns c = (λ _. rises c.args.numbers.now c.loop-i.i (omega arith) c.loop-i.invariant, λ _. refl)
