use Rattle.std.proofs.Common.{length, take, subst, sym, arith}
use Rattle.std.proofs.lemmas.Bool.{false≢true, true≢false}
use Rattle.dist_clause.specs.ClauseList.{clause_at}
use Rattle.dist_derive.specs.SweepPrivate.{Propagates, Waits}
use Rattle.dist_derive.proofs.WaitLemmas.{Propagates-then, refuted_before}
use Rattle.dist_derive.proofs.QueueLemmas.{settled_end}
use Rattle.dist_derive.proofs.log.Log.propagate.Goals as goal
use Rattle.dist_derive.proofs.log.Log.propagate.Goals.{After-take_literals, After-sweep}

pub loop-index-init : goal.loop-index-init
loop-index-init c = record {
  grows = c.look_at_all.ensures.grows;
  waiting = λ number from _ to. c.look_at_all.ensures.looked c.if-not-look_at_all.false number 0 from to (omega arith);
}

-- from the start to the end of the queue, and to the end of the walk behind it
queued : (c : After-take_literals) → Propagates (take c.args.last c.args.self.now.clauses) c.args.literals.now c.take_literals.new.literals
queued c = Propagates-then (take c.args.last c.args.self.now.clauses) c.args.literals.now c.loop-index.literals c.take_literals.new.literals
    c.loop-index.invariant.grows c.take_literals.ensures.grows

walked : (c : After-sweep) → Propagates (take c.args.last c.args.self.now.clauses) c.args.literals.now c.sweep.new.literals
walked c = Propagates-then (take c.args.last c.args.self.now.clauses) c.args.literals.now c.take_literals.new.literals c.sweep.new.literals
    (Propagates-then (take c.args.last c.args.self.now.clauses) c.args.literals.now c.loop-index.literals c.take_literals.new.literals
    c.loop-index.invariant.grows c.take_literals.ensures.grows) c.sweep.ensures.grows

pub returns-then-not-take_literals : goal.returns-then-not-take_literals
returns-then-not-take_literals c = record {
  grows = queued (goal.at.returns-then-not-take_literals c).After-take_literals;
  settled = λ e. absurd (false≢true e);
  refuted = λ _. refuted_before (take c.args.last c.args.self.now.clauses) c.args.literals.now
      c.loop-index.literals c.loop-index.invariant.grows (c.take_literals.ensures.refuted c.if-not-take_literals.true);
}

pub returns-in-Conflict : goal.returns-in-Conflict
returns-in-Conflict c = record {
  grows = walked (goal.at.returns-in-Conflict c).After-sweep;
  settled = λ e. absurd (false≢true e);
  refuted = λ _. refuted_before (take c.args.last c.args.self.now.clauses) c.args.literals.now c.take_literals.new.literals
      (queued (goal.at.returns-in-Conflict c).After-take_literals) c.in-Conflict.ensures.found;
}

pub returns-in-Settled : goal.returns-in-Settled
returns-in-Settled c = record {
  grows = walked (goal.at.returns-in-Settled c).After-sweep;
  settled = λ _. settled_end c.args.self.now.clauses c.args.last c.occurrences-index.result.now c.occurrences-index.ensures
      c.covered.result c.take_literals.new.literals c.sweep.new.literals c.covered.ensures c.in-Settled.ensures.found
      (c.take_literals.ensures.settled c.if-not-take_literals.false) c.requires.last;
  refuted = λ e. absurd (true≢false e);
}

pub loop-index-preserved : goal.loop-index-preserved
loop-index-preserved c = record {
  grows = walked (goal.at.loop-index-preserved c).After-sweep;
  waiting = λ number from covered to.
      let here = c.take_literals.ensures.settled c.if-not-take_literals.false number from covered to in
      let mid = c.take_literals.new.literals.literals in
      let on = c.sweep.ensures.grows.waiting (length mid) (clause_at c.args.self.now.clauses number) (omega arith) here in
      subst (λ done. Waits c.sweep.new.literals.literals done (clause_at c.args.self.now.clauses number)) (sym c.len-done.ensures.value) on;
}
