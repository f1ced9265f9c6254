use Rattle.std.proofs.Common.{◌≡◌, ◌<◌, ◌+◌, ◌-◌, Bool, refl, length, ap, sym, subst, ◌∙◌, arith}
use Rattle.std.specs.List.{slice_index}
use Rattle.dist_derive.specs.Propagation.{IsFalse}
use Rattle.dist_derive.specs.Watches.{list_of}
use Rattle.dist_search.specs.GuardPrivate.{Looks}
use Rattle.dist_search.proofs.GuardLemmas.{goes_then, looks_true}
use Rattle.dist_search.proofs.TakeLemmas.{pends_behind, comes_none, comes_more, comes_end, taken_false, same_item}
use Rattle.dist_search.proofs.propagation.take_literal.Goals as goal
use Rattle.dist_search.proofs.propagation.take_literal.Goals.{In_ok-look_again}

pub loop-number-init : goal.loop-number-init
loop-number-init c =
    let taking = c.requires.taking in
    comes_none c.args.log.now.clauses c.args.cone.now.members (c.args.trail.now.head - 1) c.args.taken c.negated-literal.result
    c.negated-literal.ensures c.args.watches.now c.args.trail.now c.requires.watches c.keeps_invariant.ensures.ordered.reasons
    (omega (arith, taking.from_one, taking.to_end)) taking.there taking.guarded

pub look_again-requires-clause-same_variables : goal.look_again-requires-clause-same_variables
look_again-requires-clause-same_variables c = c.loop-number.invariant.goes_on.advances.same_variables ∙ c.requires.same_variables

pub look_again-requires-clause-watches : goal.look_again-requires-clause-watches
look_again-requires-clause-watches c = c.loop-number.invariant.goes_on.advances.watches

pub returns-then-not-branch-clause-goes_on : goal.returns-then-not-branch-clause-goes_on
returns-then-not-branch-clause-goes_on c = goes_then c.args.log.now.clauses c.args.cone.now.members c.args.watches.now c.loop-number.watches
    c.look_again.new.watches c.args.trail.now c.loop-number.trail c.look_again.new.trail c.loop-number.invariant.goes_on
    c.in_ok-look_again.ensures.looks.goes_on

pub returns-then-not-branch-clause-conflict : goal.returns-then-not-branch-clause-conflict
returns-then-not-branch-clause-conflict c = c.in_ok-look_again.ensures.looks.conflict c.if-not-branch.true

-- the literal's place is before the end
placed : (c : In_ok-look_again) → c.args.trail.now.head - 1 < length c.args.trail.now.literals
placed c = omega (arith, c.requires.taking.from_one, c.requires.taking.to_end)

found_false : (c : In_ok-look_again) → IsFalse c.loop-number.trail.literals c.negated-literal.result
found_false c = taken_false c.args.trail.now.literals c.loop-number.trail.literals (c.args.trail.now.head - 1) c.args.taken c.negated-literal.result
    (placed c) c.requires.taking.there c.negated-literal.ensures c.loop-number.invariant.goes_on.advances.front

-- the list is the same after the look at one of its clauses
same_list : (c : In_ok-look_again) → list_of c.look_again.new.watches c.negated-literal.result ≡ list_of c.loop-number.watches c.negated-literal.result
same_list c = c.in_ok-look_again.ensures.looks.same_list (found_false c)

pub loop-number-preserved : goal.loop-number-preserved
loop-number-preserved c =
    let clauses = c.args.log.now.clauses in
    let cone = c.args.cone.now.members in
    let done = c.args.trail.now.head - 1 in
    let t = c.args.taken in
    let l = c.negated-literal.result in
    let a = c.args.trail.now in
    let s = c.loop-number.trail in
    let w = c.loop-number.watches in
    let v = c.look_again.new.watches in
    let b = c.look_again.new.trail in
    let h = c.loop-number.invariant in
    let looked = (goal.at.loop-number-preserved c).In_ok-look_again in
    comes_more clauses cone done t l c.negated-literal.ensures c.args.watches.now w v c.pass-place.new.self a s b c.loop-number.place
    c.pass-place.result c.in-Some.number h (omega (arith, placed looked, h.goes_on.advances.longer))
    (same_item a.literals s.literals done t (placed looked) c.requires.taking.there h.goes_on.advances.front)
    c.in-Some.ensures.some.0 c.in-Some.ensures.some.1
    (subst (λ (fine : Bool). Looks clauses cone c.in-Some.number l w v s b fine) c.if-not-branch.false c.in_ok-look_again.ensures.looks)
    (found_false looked) c.pass-place.ensures.same_pairs
    (c.pass-place.ensures.watches clauses c.in_ok-look_again.ensures.looks.goes_on.advances.watches) c.pass-place.ensures.pending

pub loop-number-preserved-then-is_blocked : goal.loop-number-preserved-then-is_blocked
loop-number-preserved-then-is_blocked c =
    let clauses = c.args.log.now.clauses in
    let cone = c.args.cone.now.members in
    let done = c.args.trail.now.head - 1 in
    let t = c.args.taken in
    let l = c.negated-literal.result in
    let a = c.args.trail.now in
    let s = c.loop-number.trail in
    let w = c.loop-number.watches in
    let number = c.in-Some.number in
    let h = c.loop-number.invariant in
    let front = h.goes_on.advances.front in
    let placed : done < length a.literals = omega (arith, c.requires.taking.from_one, c.requires.taking.to_end) in
    comes_more clauses cone done t l c.negated-literal.ensures c.args.watches.now w w w a s s c.loop-number.place (c.loop-number.place + 1) number h
    (omega (arith, placed, h.goes_on.advances.longer)) (same_item a.literals s.literals done t placed c.requires.taking.there front)
    c.in-Some.ensures.some.0 c.in-Some.ensures.some.1
    (looks_true clauses cone number l w s h.goes_on.advances.watches c.keeps_invariant-then-is_blocked.ensures.ordered.reasons
    (c.if-is_blocked.ensures.blocked refl))
    (taken_false a.literals s.literals done t l placed c.requires.taking.there c.negated-literal.ensures front) refl h.goes_on.advances.watches
    (pends_behind w l c.loop-number.place number c.in-Some.ensures.some.1)

pub pass-place-requires-clause-within : goal.pass-place-requires-clause-within
pass-place-requires-clause-within c = subst (λ ns. c.loop-number.place < length ns)
    (sym (same_list (goal.at.pass-place-requires-clause-within c).In_ok-look_again)) c.in-Some.ensures.some.0

pub pass-place-requires-clause-number : goal.pass-place-requires-clause-number
pass-place-requires-clause-number c = subst (λ ns. c.in-Some.number ≡ slice_index ns c.loop-number.place)
    (sym (same_list (goal.at.pass-place-requires-clause-number c).In_ok-look_again)) c.in-Some.ensures.some.1

pub loop-number-smaller : goal.loop-number-smaller
loop-number-smaller c =
    let same = ap length (same_list (goal.at.loop-number-smaller c).In_ok-look_again) in
    omega (arith, same, c.pass-place.ensures.left, c.pass-place.ensures.up_to)

pub returns-clause-guarded : goal.returns-clause-guarded
returns-clause-guarded c = comes_end c.args.log.now.clauses c.args.cone.now.members (c.args.trail.now.head - 1) c.negated-literal.result
    c.args.watches.now c.loop-number.watches c.args.trail.now c.loop-number.trail c.loop-number.place c.loop-number.invariant
    c.in_default.ensures.none (omega (arith, c.requires.taking.from_one))
