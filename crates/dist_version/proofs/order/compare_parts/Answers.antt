use Rattle.std.proofs.Common.{length, arith, sym, ap, ap₂, ◌∙◌}
use Rattle.dist_version.specs.Order.{part_cmp}
use Rattle.dist_version.proofs.Turns.{after_turn-shorter_by_one, part_cmp-by_turns, part_cmp-ended}
use Rattle.dist_version.proofs.Steps.{no_bytes, some_bytes}
use Rattle.dist_version.proofs.Then.{then_stop, then_go_on}
use Rattle.dist_version.proofs.order.compare_parts.Goals as goal
use Rattle.dist_version.proofs.order.compare_parts.Goals.{then-not-is_empty, else-not-is_empty+then-not-is_empty-2}

pub returns-then-is_ne : goal.returns-then-is_ne
returns-then-is_ne c =
    let left = c.after_common.result.0.now in
    let right = c.after_common.result.1.now in
    let order = c.compare_turns-order.result in
    let step = part_cmp-by_turns left right order c.compare_turns-order.ensures in
    sym (then_stop order _ c.if-is_ne.ensures) ∙ sym step ∙ c.after_common.ensures.order ∙ c.loop-a.invariant

pub loop-a-preserved : goal.loop-a-preserved
loop-a-preserved c =
    let left = c.after_common.result.0.now in
    let right = c.after_common.result.1.now in
    let order = c.compare_turns-order.result in
    let step = part_cmp-by_turns left right order c.compare_turns-order.ensures in
    ap₂ part_cmp c.next_turn.ensures.rest c.next_turn-in-loop-a.ensures.rest ∙ sym (then_go_on order _ c.if-is_ne.ensures) ∙ sym step
    ∙ c.after_common.ensures.order ∙ c.loop-a.invariant

pub returns : goal.returns
returns c = part_cmp-ended c.loop-a.a.now c.loop-a.b.now (no_bytes c.loop-a.a.now c.if-not-is_empty.ensures)
    (no_bytes c.loop-a.b.now c.if-not-is_empty-2.ensures) ∙ c.loop-a.invariant

pub loop-a-smaller : goal.loop-a-smaller
loop-a-smaller c =
    let first = ap length c.next_turn.ensures.rest in
    let second = ap length c.next_turn-in-loop-a.ensures.rest in
    let a = after_turn-shorter_by_one c.after_common.result.0.now in
    let b = after_turn-shorter_by_one c.after_common.result.1.now in
    elim c.if-not-is_empty.branch [
      | then-not-is_empty w ↦ omega (arith, first, second, a, b, some_bytes c.loop-a.a.now w.if-not-is_empty.ensures)
      | else-not-is_empty+then-not-is_empty-2 w ↦ omega (arith, first, second, a, b, some_bytes c.loop-a.b.now w.if-not-is_empty-2.ensures)
    ]
