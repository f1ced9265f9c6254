use Rattle.std.proofs.Common.{◌*◌, ◌+◌, ap₂, sym, ◌∙◌, arith, count_ones}
use Rattle.std.proofs.lemmas.List.Sums.{sum_by-take-le}
use Rattle.dist_lanes.proofs.CountLemmas.{sum-lanes}
use Rattle.dist_lanes.proofs.words.ones.Goals as goal

pub overflow_add-total : goal.overflow_add-total
overflow_add-total c =
    record {
      fits = omega (
        arith,
        c.lanes_ones.ensures,
        c.loop-group.invariant,
        sum-lanes c.args.words.now c.loop-group.group,
        sum_by-take-le count_ones c.args.words.now (8 * (c.loop-group.group + 1)),
        c.requires (λ k. (c.type_inv.words k).fits),
      );
    }

pub loop-group-preserved : goal.loop-group-preserved
loop-group-preserved c =
    ap₂ (λ a b. a + b) c.loop-group.invariant c.lanes_ones.ensures ∙ sym (sum-lanes c.args.words.now c.loop-group.group)
