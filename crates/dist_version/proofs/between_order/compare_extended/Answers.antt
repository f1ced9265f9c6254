use Rattle.std.proofs.Common.{◌∙◌, List, ℕ, ap, ap₂, arith, length, sym}
use Rattle.dist_version.specs.Order.{after_turn, part_cmp}
use Rattle.dist_version.proofs.BetweenOrder.{extended-stops, left-none, left-some}
use Rattle.dist_version.proofs.Density.{extended, letter_and}
use Rattle.dist_version.proofs.Steps.{no_bytes, some_bytes}
use Rattle.dist_version.proofs.Then.{then_go_on, then_stop}
use Rattle.dist_version.proofs.Turns.{after_turn-shorter_by_one}
use Rattle.dist_version.proofs.between_order.compare_extended.Goals as goal

pub returns-then-is_ne : goal.returns-then-is_ne
returns-then-is_ne c =
    let a = c.loop-revision.revision.now in
    let q = c.loop-revision.other.now in
    let order = c.compare_turns-order.result in
    let step = extended-stops c.args.tildes a q order c.compare_turns-order.ensures in
    sym (then_stop order _ c.if-is_ne.ensures) ∙ sym step ∙ c.loop-revision.invariant

pub returns-then-is_empty : goal.returns-then-is_empty
returns-then-is_empty c =
    let n = c.args.tildes in
    let a = c.loop-revision.revision.now in
    let q = c.loop-revision.other.now in
    let order = c.compare_turns-order.result in
    let step = extended-stops n a q order c.compare_turns-order.ensures in
    let none = ap (λ (s : List ℕ). length s) (sym c.next_turn.ensures.rest) ∙ no_bytes c.next_turn.result.rest.now c.if-is_empty.ensures in
    c.compare_letter.ensures ∙ ap (part_cmp (letter_and n)) c.next_turn-in-loop-revision.ensures.rest
    ∙ sym (ap (λ (s : List ℕ). part_cmp s (after_turn q)) (left-none n a none)) ∙ sym (then_go_on order _ c.if-is_ne.ensures) ∙ sym step
    ∙ c.loop-revision.invariant

pub loop-revision-smaller : goal.loop-revision-smaller
loop-revision-smaller c =
    let rest = ap (λ (s : List ℕ). length s) c.next_turn.ensures.rest in
    let some = some_bytes c.next_turn.result.rest.now c.if-is_empty.ensures in
    omega (arith, rest, some, after_turn-shorter_by_one c.loop-revision.revision.now)

pub loop-revision-preserved : goal.loop-revision-preserved
loop-revision-preserved c =
    let n = c.args.tildes in
    let a = c.loop-revision.revision.now in
    let q = c.loop-revision.other.now in
    let order = c.compare_turns-order.result in
    let step = extended-stops n a q order c.compare_turns-order.ensures in
    let rest = ap (λ (s : List ℕ). length s) c.next_turn.ensures.rest in
    let some = some_bytes c.next_turn.result.rest.now c.if-is_empty.ensures in
    ap₂ (λ (s t : List ℕ). part_cmp (extended s n) t) c.next_turn.ensures.rest c.next_turn-in-loop-revision.ensures.rest
    ∙ sym (ap (λ (s : List ℕ). part_cmp s (after_turn q)) (left-some n a (omega (arith, rest, some)))) ∙ sym (then_go_on order _ c.if-is_ne.ensures) ∙ sym step
    ∙ c.loop-revision.invariant
