use Rattle.std.proofs.Common.{◌+◌}
use Rattle.std.proofs.lemmas.Result.{IfErr-weaker, err_from_is_err_and}
use Rattle.dist_repair.specs.CountedPrivate.{StopsWith}
use Rattle.dist_repair.specs.Counters.{class_clauses, count_clauses, counter_clauses, each_below}
use Rattle.dist_repair.proofs.StopLemmas.{stops-first, stops-later}
use Rattle.dist_repair.proofs.counted.push_counter.Goals as goal

pub returns-in_err-push_all_classes-clause-err : goal.returns-in_err-push_all_classes-clause-err
returns-in_err-push_all_classes-clause-err c =
    let p = err_from_is_err_and c.from_residual.result c.from_residual.ensures.1 in
    rw (p.1, p.2) (stops-first c.args.set.now (each_below c.args.counter.now.clusters (class_clauses c.args.space.now c.args.counter.now))
    (each_below c.args.counter.now.clusters (λ x. each_below (c.args.counter.now.most + 1) (count_clauses c.args.counter.now x)))
    c.in_err-push_all_classes.field-0.0 c.in_err-push_all_classes.ensures.err)

pub returns-clause-err : goal.returns-clause-err
returns-clause-err c = IfErr-weaker c.push_all_counts.result
    (StopsWith c.push_all_classes.new.set (each_below c.args.counter.now.clusters
    (λ x. each_below (c.args.counter.now.most + 1) (count_clauses c.args.counter.now x))))
    (StopsWith c.args.set.now (counter_clauses c.args.space.now c.args.counter.now))
    (λ e stops. stops-later c.args.set.now c.push_all_classes.new.set
    (each_below c.args.counter.now.clusters (class_clauses c.args.space.now c.args.counter.now))
    (each_below c.args.counter.now.clusters (λ x. each_below (c.args.counter.now.most + 1) (count_clauses c.args.counter.now x))) e
    c.in_ok-push_all_classes.ensures.ok stops)
    c.push_all_counts.ensures.err
