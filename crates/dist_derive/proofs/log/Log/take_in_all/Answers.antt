use Rattle.std.proofs.Common.{◌+◌, Bool, subst, arith}
use Rattle.std.proofs.lemmas.Bool.{false≢true, true≢false}
use Rattle.dist_derive.specs.WatchesPrivate.{Looks}
use Rattle.dist_derive.proofs.GuardLemmas.{takes_none, takes_more, advances_then, refuted_later}
use Rattle.dist_derive.proofs.log.Log.take_in_all.Goals as goal

pub loop-place-init : goal.loop-place-init
loop-place-init c = takes_none c.args.self.now.clauses c.args.last c.args.done c.args.watches.now c.args.literals.now c.args.taken c.requires.guarded

pub returns-then-not-branch : goal.returns-then-not-branch
returns-then-not-branch c =
    let clauses = c.args.self.now.clauses in
    let last = c.args.last in
    let looks = c.in_ok-take_in.ensures in
    record {
      advances = advances_then clauses last c.args.watches.now c.loop-place.watches c.take_in.new.watches c.args.literals.now c.loop-place.literals
          c.take_in.new.literals c.loop-place.invariant.advances looks.advances;
      guarded = λ e. absurd (false≢true e);
      refuted = λ _. refuted_later clauses last c.args.watches.now c.loop-place.watches c.args.literals.now c.loop-place.literals
          c.loop-place.invariant.advances (looks.refuted c.if-not-branch.true);
    }

pub loop-place-preserved : goal.loop-place-preserved
loop-place-preserved c =
    let clauses = c.args.self.now.clauses in
    let place = c.loop-place.place in
    takes_more clauses c.args.last c.args.done c.args.watches.now c.loop-place.watches c.take_in.new.watches c.args.literals.now c.loop-place.literals
    c.take_in.new.literals place c.requires.done c.loop-place.invariant
    (subst (λ (fine : Bool). Looks clauses c.args.last (place + 1) c.loop-place.watches c.take_in.new.watches c.loop-place.literals c.take_in.new.literals fine)
    c.if-not-branch.false c.in_ok-take_in.ensures)

pub returns : goal.returns
returns c = record {
  advances = c.loop-place.invariant.advances;
  guarded = λ _ number from to. c.loop-place.invariant.guarded number from (omega (arith, to, c.loop-place-test.false));
  refuted = λ e. absurd (true≢false e);
}
