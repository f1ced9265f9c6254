use Rattle.std.proofs.Common.{◌∷◌, [], List, subst, sym, arith}
use Rattle.std.proofs.lemmas.Result.{IfErr-weaker, on_ok_weaker}
use Rattle.dist_clause.specs.Formula.{Literal}
use Rattle.dist_repair.specs.CountedPrivate.{HasMore, StopsWith}
use Rattle.dist_repair.specs.Counters.{count_clauses, more, moved, no, yes}
use Rattle.dist_repair.proofs.StopLemmas.{counts-first, counts-none, more-none}
use Rattle.dist_repair.proofs.counted.push_count.Goals as goal

pub returns-then-number-eq0-clause-ok : goal.returns-then-number-eq0-clause-ok
returns-then-number-eq0-clause-ok c = on_ok_weaker c.push_first.result
    (λ more. subst (HasMore c.args.set.now c.push_first.new.set)
    (sym (counts-first c.args.counter.now c.args.cluster c.args.number (omega (arith, c.if-cluster-gt0.false)) c.if-number-eq0.true)) more)
    c.push_first.ensures.ok

pub returns-then-number-eq0-clause-err : goal.returns-then-number-eq0-clause-err
returns-then-number-eq0-clause-err c = IfErr-weaker c.push_first.result
    (StopsWith c.args.set.now ((no (moved c.args.counter.now 0) ∷ yes (more c.args.counter.now 0 0) ∷ []) ∷ []))
    (StopsWith c.args.set.now (count_clauses c.args.counter.now c.args.cluster c.args.number))
    (λ e stops. subst (λ (xs : List (List Literal)). StopsWith c.args.set.now xs e)
    (sym (counts-first c.args.counter.now c.args.cluster c.args.number (omega (arith, c.if-cluster-gt0.false)) c.if-number-eq0.true)) stops)
    c.push_first.ensures.err

pub returns-clause-ok : goal.returns-clause-ok
returns-clause-ok c = subst (HasMore c.args.set.now c.args.set.now)
    (sym (counts-none c.args.counter.now c.args.cluster c.args.number (omega (arith, c.if-cluster-gt0.false)) (omega (arith, c.if-number-eq0.false))))
    (more-none c.args.set.now)
