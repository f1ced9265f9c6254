use Rattle.std.proofs.Common.{◌-◌, ◌≤◌, get_or, arith}
use Rattle.dist_search.proofs.TrailLemmas.{rising_before}
use Rattle.dist_search.proofs.trail.Trail.levels_to.Goals as goal

pub returns-else-start-place-clause-before : goal.returns-else-start-place-clause-before
returns-else-start-place-clause-before c =
    let starts = c.args.self.now.starts in
    let last = c.loop-levels.levels - 1 in
    let at : get_or starts last 0 ≤ c.args.place = omega (arith, c.start.ensures.value, c.if-start-place.false) in
    λ k before. rising_before starts last c.args.place c.keeps_invariant.ensures.ordered.rising
    (omega (arith, c.loop-levels.invariant.0, c.loop-levels-test.true)) at k (omega (arith, before))
