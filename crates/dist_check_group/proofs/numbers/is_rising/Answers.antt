use Rattle.std.proofs.Common.{arith, refl}
use Rattle.dist_check_group.proofs.RisingLemmas.{rising-from}
use Rattle.dist_check_group.proofs.numbers.is_rising.Goals as goal

pub returns : goal.returns
returns c = ((λ yes. rising-from c.args.numbers.now (λ k within. c.loop-place.invariant k (omega (arith, within)) within)), λ rising. refl)
