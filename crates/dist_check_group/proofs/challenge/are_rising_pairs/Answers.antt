use Rattle.std.proofs.Common.{arith, refl}
use Rattle.dist_check_group.proofs.ChallengeLemmas.{pairs-rising}
use Rattle.dist_check_group.proofs.challenge.are_rising_pairs.Goals as goal

pub loop-place-init : goal.loop-place-init
loop-place-init c = λ k d within. absurd (omega (arith, within))

pub returns : goal.returns
returns c = (
  (λ yes. pairs-rising c.args.pairs.now (λ k d within. c.loop-place.invariant k d (omega (arith, within, c.loop-place-test.false)))),
  λ rising. refl,
)
