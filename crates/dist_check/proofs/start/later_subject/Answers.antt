use Rattle.std.proofs.lemmas.Result.{err_from_is_err_and}
use Rattle.dist_check.proofs.Begun.{given, later-subject}
use Rattle.dist_check.proofs.start.later_subject.Goals as goal

pub returns-in_err-made-clause-err : goal.returns-in_err-made-clause-err
returns-in_err-made-clause-err c =
    let p = err_from_is_err_and c.from_residual.result c.from_residual.ensures.1 in
    rw (p.1, p.2) c.in_err-made.ensures.cause

pub returns-in_err-layout-clause-err : goal.returns-in_err-layout-clause-err
returns-in_err-layout-clause-err c =
    let p = err_from_is_err_and c.from_residual-in_err-layout.result c.from_residual-in_err-layout.ensures.1 in
    rw (p.1, p.2) tt

pub returns-clause-ok : goal.returns-clause-ok
returns-clause-ok c =
    let made = c.in_ok-made.made in
    later-subject c.args.repo.now c.args.essential c.args.limits.now c.args.kind made.space made.clauses made.ends c.in_ok-layout.layout
    c.package_count.result c.requires.kind (c.in_ok-made.ensures.ok c.args.kind c.requires.kind) c.keeps_invariant.ensures.within c.package_count.ensures
    c.in_ok-layout.ensures.kind (c.in_ok-layout.ensures.lays_out made.clauses.clauses)
    (λ clauses values. c.future_clauses_are_two_parts.ensures made.space made.clauses.clauses made.ends values clauses c.in_ok-made.ensures.ends)
    (λ space number. c.packages_come_first.ensures.packages made.space number space)

pub returns-clause-space : goal.returns-clause-space
returns-clause-space c =
    let made = c.in_ok-made.made in
    given c.args.repo.now c.args.limits.now c.args.kind c.args.essential made.space made.clauses c.args.wants_space c.then_some.result
    (c.in_ok-made.ensures.ok c.args.kind c.requires.kind) c.then_some.ensures
