use Rattle.std.proofs.Common.{ℕ, ◌-◌, List, ap, arith, length}
use Rattle.std.proofs.lemmas.List.{length-take}
use Rattle.dist_journal.proofs.CutLemmas.{cut-more, cut-split}
use Rattle.dist_journal.proofs.cutting.split_block.Goals as goal

pub loop-after-preserved : goal.loop-after-preserved
loop-after-preserved c = record {
  cut = cut-more c.args.bytes.now c.loop-after.rest.now c.in-Some.after.now c.loop-after.count c.loop-after.invariant.cut c.in-Some.ensures.some;
  counted = let a = c.loop-after.invariant.counted in let b = c.in-Some.ensures.some.shorter in omega (arith, a, b);
}

pub returns-clause-cut : goal.returns-clause-cut
returns-clause-cut c =
    (cut-split c.args.bytes.now c.loop-after.rest.now _ _ c.loop-after.count c.loop-after.invariant.cut c.in_default.ensures.none
    c.split_at.ensures.front c.split_at.ensures.back).0

pub returns-clause-within : goal.returns-clause-within
returns-clause-within c =
    let e = ap (λ (l : List ℕ). length l) c.split_at.ensures.front in
    let f = length-take (length c.args.bytes.now - length c.loop-after.rest.now) c.args.bytes.now in
    omega (arith, e, f)
