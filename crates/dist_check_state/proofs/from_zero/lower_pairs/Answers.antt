use Rattle.std.proofs.Common.{◌-◌, ℕ, arith, get_or}
use Rattle.std.proofs.lemmas.List.{get_or_default}
use Rattle.std.proofs.lemmas.List.Edits.{map_over_more}
use Rattle.dist_check_state.proofs.from_zero.lower_pairs.Goals as goal

pub loop-pair-preserved : goal.loop-pair-preserved
loop-pair-preserved c =
    let i = c.loop-pair.pair-index in
    let pair : ℕ × ℕ = get_or c.loop-pair.pairs i (0, 0) in
    map_over_more (λ (p : ℕ × ℕ). (p.0 - 1, p.1 - 1)) c.args.pairs.now c.loop-pair.pairs i pair c.loop-pair-test.true c.loop-pair.invariant
    (get_or_default c.loop-pair.pairs i (0, 0) pair (omega (arith, c.loop-pair-test.true, c.loop-pair.auto.pairs)))
