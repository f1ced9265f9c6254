use Rattle.std.proofs.Common.{◌-◌, arith, get_or}
use Rattle.std.proofs.lemmas.List.{get_or_default}
use Rattle.std.proofs.lemmas.List.Edits.{map_over_more}
use Rattle.dist_check_state.proofs.from_zero.lower.Goals as goal

pub loop-number-preserved : goal.loop-number-preserved
loop-number-preserved c =
    let i = c.loop-number.number-index in
    map_over_more (λ n. n - 1) c.args.numbers.now c.loop-number.numbers i (get_or c.loop-number.numbers i 0) c.loop-number-test.true c.loop-number.invariant
    (get_or_default c.loop-number.numbers i 0 (get_or c.loop-number.numbers i 0) (omega (arith, c.loop-number-test.true, c.loop-number.auto.numbers)))
