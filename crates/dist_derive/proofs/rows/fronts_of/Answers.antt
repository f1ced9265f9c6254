use Rattle.std.proofs.Common.{List, ℕ, ap, arith, length, subst, sym}
use Rattle.std.proofs.lemmas.List.{length_push}
use Rattle.dist_derive.specs.RowsPrivate.{AreFrontsOf}
use Rattle.dist_derive.proofs.RowLemmas.{fronts-more}
use Rattle.dist_derive.proofs.rows.fronts_of.Goals as goal

pub loop-place-preserved : goal.loop-place-preserved
loop-place-preserved c = record {
  fronts = subst (λ (fs : List ℕ). AreFrontsOf c.args.rows.now c.args.pairs.now fs) (sym c.in_ok-push.ensures.items)
      (fronts-more c.args.rows.now c.args.pairs.now c.loop-place.fronts.items c.front_at.result c.loop-place.place c.loop-place.invariant.count
      c.loop-place.invariant.fronts c.front_at.ensures);
  count = let more = ap (λ (fs : List ℕ). length fs) c.in_ok-push.ensures.items in
      omega (arith, more, length_push c.loop-place.fronts.items c.front_at.result, c.loop-place.invariant.count);
}
