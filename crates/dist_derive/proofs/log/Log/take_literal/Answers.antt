use Rattle.std.proofs.Common.{◌≡◌, ◌<◌, Bool, length, ap, sym, subst, arith}
use Rattle.std.specs.List.{slice_index}
use Rattle.std.proofs.lemmas.Bool.{false≢true, true≢false}
use Rattle.dist_derive.specs.Watches.{list_of}
use Rattle.dist_derive.specs.WatchesPrivate.{LooksAgain}
use Rattle.dist_derive.proofs.GuardLemmas.{advances_then, refuted_later}
use Rattle.dist_derive.proofs.VisitLemmas.{comes_none, comes_more, comes_end, taken_false, same_item}
use Rattle.dist_derive.proofs.log.Log.take_literal.Goals as goal
use Rattle.dist_derive.proofs.log.Log.take_literal.Goals.{In_ok-look_again}

pub loop-number-init : goal.loop-number-init
loop-number-init c = comes_none c.args.self.now.clauses c.args.last c.args.done c.get.result c.negated-literal.result c.negated-literal.ensures
    c.args.watches.now c.args.literals.now c.requires.done c.get.ensures c.requires.watches c.requires.guarded

pub returns-then-not-branch : goal.returns-then-not-branch
returns-then-not-branch c =
    let clauses = c.args.self.now.clauses in
    let last = c.args.last in
    let looks = c.in_ok-look_again.ensures in
    record {
      advances = advances_then clauses last c.args.watches.now c.loop-number.watches c.look_again.new.watches c.args.literals.now c.loop-number.literals
          c.look_again.new.literals c.loop-number.invariant.advances looks.advances;
      guarded = λ e. absurd (false≢true e);
      refuted = λ _. refuted_later clauses last c.args.watches.now c.loop-number.watches c.args.literals.now c.loop-number.literals
          c.loop-number.invariant.advances (looks.refuted c.if-not-branch.true);
    }

pub loop-number-preserved : goal.loop-number-preserved
loop-number-preserved c =
    let clauses = c.args.self.now.clauses in
    let done = c.args.done in
    let t = c.get.result in
    let l = c.negated-literal.result in
    let a = c.args.literals.now in
    let s = c.loop-number.literals in
    let w = c.loop-number.watches in
    let v = c.look_again.new.watches in
    let b = c.look_again.new.literals in
    let h = c.loop-number.invariant in
    comes_more clauses c.args.last done t l c.negated-literal.ensures c.args.watches.now w v c.pass-place.new.self a s b c.loop-number.place
    c.pass-place.result c.in-Some.number h (omega (arith, c.requires.done, h.advances.grows.longer))
    (same_item a.literals s.literals done t c.requires.done c.get.ensures h.advances.grows.front)
    c.in-Some.ensures.some.0 c.in-Some.ensures.some.1
    (subst (λ (fine : Bool). LooksAgain clauses c.args.last c.in-Some.number l w v s b fine) c.if-not-branch.false c.in_ok-look_again.ensures)
    (taken_false a.literals s.literals done t l c.requires.done c.get.ensures c.negated-literal.ensures h.advances.grows.front)
    c.pass-place.ensures.same_pairs (c.pass-place.ensures.watches clauses) c.pass-place.ensures.pending

-- the list is the same after the look at one of its clauses
same_list : (c : In_ok-look_again) → list_of c.look_again.new.watches c.negated-literal.result ≡ list_of c.loop-number.watches c.negated-literal.result
same_list c =
    let a = c.args.literals.now.literals in
    c.in_ok-look_again.ensures.false_lists c.negated-literal.result
    (taken_false a c.loop-number.literals.literals c.args.done c.get.result c.negated-literal.result c.requires.done c.get.ensures
    c.negated-literal.ensures c.loop-number.invariant.advances.grows.front)

pub pass-place-requires-clause-within : goal.pass-place-requires-clause-within
pass-place-requires-clause-within c = subst (λ ns. c.loop-number.place < length ns)
    (sym (same_list (goal.at.pass-place-requires-clause-within c).In_ok-look_again)) c.in-Some.ensures.some.0

pub pass-place-requires-clause-number : goal.pass-place-requires-clause-number
pass-place-requires-clause-number c = subst (λ ns. c.in-Some.number ≡ slice_index ns c.loop-number.place)
    (sym (same_list (goal.at.pass-place-requires-clause-number c).In_ok-look_again)) c.in-Some.ensures.some.1

pub loop-number-smaller : goal.loop-number-smaller
loop-number-smaller c =
    let same = ap length (same_list (goal.at.loop-number-smaller c).In_ok-look_again) in
    omega (arith, same, c.pass-place.ensures.left, c.pass-place.ensures.up_to)

pub returns : goal.returns
returns c = record {
  advances = c.loop-number.invariant.advances;
  guarded = λ _. comes_end c.args.self.now.clauses c.args.last c.args.done c.negated-literal.result c.args.watches.now c.loop-number.watches
      c.args.literals.now c.loop-number.literals c.loop-number.place c.loop-number.invariant c.in_default.ensures.none;
  refuted = λ e. absurd (true≢false e);
}
