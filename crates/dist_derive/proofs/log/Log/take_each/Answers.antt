use Rattle.std.proofs.lemmas.Bool.{false≢true, true≢false}
use Rattle.std.proofs.Common.{arith}
use Rattle.dist_derive.proofs.GuardLemmas.{advances_then, refuted_later}
use Rattle.dist_derive.proofs.VisitLemmas.{taken_none, taken_more, taken_all}
use Rattle.dist_derive.proofs.log.Log.take_each.Goals as goal

pub loop-done-init : goal.loop-done-init
loop-done-init c = taken_none c.args.self.now.clauses c.args.last c.args.watches.now c.args.literals.now c.args.first c.requires.watches
    c.requires.guarded

pub returns-then-not-branch : goal.returns-then-not-branch
returns-then-not-branch c =
    let clauses = c.args.self.now.clauses in
    let last = c.args.last in
    let step = c.in_ok-take_literal.ensures in
    record {
      advances = advances_then clauses last c.args.watches.now c.loop-done.watches c.take_literal.new.watches c.args.literals.now c.loop-done.literals
          c.take_literal.new.literals c.loop-done.invariant.advances step.advances;
      guarded = λ e. absurd (false≢true e);
      refuted = λ _. refuted_later clauses last c.args.watches.now c.loop-done.watches c.args.literals.now c.loop-done.literals
          c.loop-done.invariant.advances (step.refuted c.if-not-branch.true);
    }

pub loop-done-preserved : goal.loop-done-preserved
loop-done-preserved c =
    taken_more c.args.self.now.clauses c.args.last c.args.watches.now c.loop-done.watches c.take_literal.new.watches c.args.literals.now
    c.loop-done.literals c.take_literal.new.literals c.loop-done.done c.loop-done.invariant c.in_ok-take_literal.ensures.advances
    (c.in_ok-take_literal.ensures.guarded c.if-not-branch.false)

pub returns : goal.returns
returns c = record {
  advances = c.loop-done.invariant.advances;
  guarded = λ _. taken_all c.args.self.now.clauses c.args.last c.args.watches.now c.loop-done.watches c.args.literals.now c.loop-done.literals
      c.loop-done.done c.loop-done.invariant (omega arith);
  refuted = λ e. absurd (true≢false e);
}
