use Rattle.std.proofs.Common.{◌≤◌, length, ap, arith}
use Rattle.dist_search.specs.Trail.{TrailState}
use Rattle.dist_search.proofs.TrailLemmas.{rising_few}
use Rattle.dist_search.proofs.trail.Trail.levels.Goals as goal

few : (c : goal.After-len) → c.len.result ≤ c.self.inside.trues.variables
few c =
    let kept = c.self.invariant in
    let starts = rising_few c.self.inside.starts.items (length c.self.inside.trues.literals) kept.rising kept.decided in
    omega (arith, starts, kept.few, c.len.ensures)

pub overflow_cast-result : goal.overflow_cast-result
overflow_cast-result c = omega (arith, few c, c.self.invariant.stated)

pub returns-clause-few : goal.returns-clause-few
returns-clause-few c = omega (arith, few c, ap (λ (t : TrailState). t.variables) c.self.view_is)
