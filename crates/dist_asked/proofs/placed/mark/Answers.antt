use Rattle.std.proofs.Common.{arith, sym, subst, ◌∙◌}
use Rattle.dist_asked.specs.PlacedPrivate.{ArePlacedBelow}
use Rattle.dist_asked.proofs.MarkLemmas.{marked-more, marked-whole}
use Rattle.dist_asked.proofs.placed.mark.Goals as goal

pub mark_next-last-requires-clause-below : goal.mark_next-last-requires-clause-below
mark_next-last-requires-clause-below c = subst (ArePlacedBelow c.args.placed.now) (sym c.loop-next.invariant.same) c.requires

pub loop-next-preserved : goal.loop-next-preserved
loop-next-preserved c = record {
  last = let up = c.mark_next-last.ensures.last in omega (arith, up);
  same = c.mark_next-last.ensures.same ∙ c.loop-next.invariant.same;
  marked = λ _. c.mark_next-last.ensures.marked;
  each = marked-more c.args.placed.now c.loop-next.marks.items c.mark_next-last.new.marks.items c.loop-next.next c.mark_next-last.result
      c.mark_next-last.ensures.kept c.mark_next-last.ensures.marked c.mark_next-last.ensures.wider c.loop-next.invariant.each;
}

pub returns : goal.returns
returns c =
    marked-whole c.args.placed.now c.loop-next.marks.items c.loop-next.next (omega (arith, c.loop-next-test.false)) c.loop-next.invariant.each
