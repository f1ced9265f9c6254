use Rattle.std.proofs.Common.{◌≡◌, ℕ, ◌≤◌, get_or, length, take, ap, subst, ◌∙◌, arith}
use Rattle.std.proofs.lemmas.Bool.{false≢true, true≢false}
use Rattle.dist_clause.specs.Formula.{negation}
use Rattle.dist_clause.specs.ClauseList.{clause_at}
use Rattle.dist_derive.specs.OccurrencesPrivate.{code_of, Lists}
use Rattle.dist_derive.specs.SweepPrivate.{Waits}
use Rattle.dist_derive.proofs.WaitLemmas.{Propagates-none, Propagates-then, refuted_before}
use Rattle.dist_derive.proofs.QueueLemmas.{takes_more, takes_all}
use Rattle.dist_derive.proofs.log.Log.take_literals.Goals as goal

pub loop-done-init : goal.loop-done-init
loop-done-init c = record { grows = Propagates-none (take c.args.last c.args.self.now.clauses) c.args.literals.now; waiting = c.requires.waiting }

pub returns-then-not-visit : goal.returns-then-not-visit
returns-then-not-visit c =
    let clauses = take c.args.last c.args.self.now.clauses in
    record {
      grows = Propagates-then clauses c.args.literals.now c.loop-done.literals c.visit.new.literals c.loop-done.invariant.grows c.visit.ensures.grows;
      settled = λ e. absurd (false≢true e);
      refuted = λ _. refuted_before clauses c.args.literals.now c.loop-done.literals c.loop-done.invariant.grows
          (c.visit.ensures.refuted c.if-not-visit.true);
    }

pub loop-done-preserved : goal.loop-done-preserved
loop-done-preserved c =
    let index = c.args.index.now in
    let l = c.get.result in
    let now = c.loop-done.literals in
    let next = c.visit.new.literals in
    let latest : c.latest-latest.result ≡ get_or index.heads (code_of (negation l)) 0 =
    c.latest-latest.ensures ∙ ap (λ k. get_or index.heads k 0) (c.code_of.ensures ∙ ap code_of c.negated.ensures) in
    takes_more c.args.self.now.clauses c.args.last index c.requires.index c.args.literals.now now next c.loop-done.done l c.loop-done.invariant
    (omega arith) c.get.ensures c.visit.ensures.grows
    (subst (λ place. (number d : ℕ) → Lists index.links place number → number ≤ c.args.last → d ≤ length now.literals
    → Waits next.literals d (clause_at c.args.self.now.clauses number)) latest (c.visit.ensures.visited c.if-not-visit.false))

pub returns : goal.returns
returns c = record {
  grows = c.loop-done.invariant.grows;
  settled = λ _. takes_all c.args.self.now.clauses c.args.last c.args.index.now c.requires.index c.args.literals.now c.loop-done.literals c.loop-done.done
      c.loop-done.invariant (omega arith);
  refuted = λ e. absurd (true≢false e);
}
