use Rattle.std.proofs.Common.{refl}
use Rattle.dist_subject.specs.Basis.{Today}
use Rattle.dist_strong.proofs.sweep.strong.Goals as goal

pub returns-clause-answers : goal.returns-clause-answers
returns-clause-answers g c =
    let set = c.in_ok-clauses.clauses in
    c.write_sweep.ensures c.args.repo.now (Today c.args.essential set.clauses) c.len.ensures.in_order c.in_ok-clauses.ensures.ok
    c.len.ensures.value (record { kind = refl; same = refl })
