use Rattle.std.proofs.Common.{subst}
use Rattle.std.proofs.lemmas.Result.{IfErr-weaker, err_from_is_err_and}
use Rattle.dist_repair.specs.CountedPrivate.{IsStoppedIn, StopsWith}
use Rattle.dist_repair.specs.Counters.{Counter, counted_clauses, counter_clauses}
use Rattle.dist_repair.proofs.StopLemmas.{stops-first, stops-later, stops-whole}
use Rattle.dist_repair.proofs.counted.push_counted.Goals as goal

pub returns-in_err-push_all-clause-err : goal.returns-in_err-push_all-clause-err
returns-in_err-push_all-clause-err c =
    let p = err_from_is_err_and c.from_residual.result c.from_residual.ensures.1 in
    rw (p.1, p.2) (stops-whole c.args.set.now (counted_clauses c.args.space.now c.args.clauses.now.clauses c.args.counter.now.most)
    c.in_err-push_all.field-0.0 c.requires.none
    (stops-first c.args.set.now c.args.clauses.now.clauses _ c.in_err-push_all.field-0.0 c.in_err-push_all.ensures.err))

pub returns-clause-err : goal.returns-clause-err
returns-clause-err c = IfErr-weaker c.push_counter.result
    (StopsWith c.push_all.new.set (counter_clauses c.args.space.now c.args.counter.now))
    (IsStoppedIn c.args.set.now.clause_limit c.args.set.now.literal_limit
    (counted_clauses c.args.space.now c.args.clauses.now.clauses c.args.counter.now.most))
    (λ e stops. stops-whole c.args.set.now (counted_clauses c.args.space.now c.args.clauses.now.clauses c.args.counter.now.most) e c.requires.none
    (stops-later c.args.set.now c.push_all.new.set c.args.clauses.now.clauses _ e c.in_ok-push_all.ensures.ok
    (subst (λ (t : Counter). StopsWith c.push_all.new.set (counter_clauses c.args.space.now t) e) c.requires.counter stops)))
    c.push_counter.ensures.err
