use Rattle.std.proofs.Common.{inl, inr}
use Rattle.dist_now.proofs.AddsLemmas.{adds-more}
use Rattle.dist_now.proofs.PartnerLemmas.{IsPartnerAt, partner-more, partners-all, partners-none, passed-more, passed-none, split-next}
use Rattle.dist_now.proofs.rejections.add_partners.Goals as goal

pub loop-place-init : goal.loop-place-init
loop-place-init c = (passed-none c.args.pairs.now c.args.number c.args.start, partners-none c.args.pairs.now c.args.start c.args.numbers.now.items)

pub loop-place-preserved : goal.loop-place-preserved
loop-place-preserved c = (
  passed-more c.args.pairs.now c.args.number c.args.start c.loop-place.place c.loop-place.invariant.0 c.if-pairs-place.true,
  rw c.in_ok-push.ensures.items
      (adds-more c.args.numbers.now.items c.loop-place.numbers.items _ (IsPartnerAt c.args.pairs.now c.args.start) c.loop-place.place c.loop-place.invariant.1
      (partner-more c.args.pairs.now c.args.number c.args.start c.loop-place.place c.loop-place.numbers.items c.loop-place.invariant.0 c.loop-place-test.true)),
)

pub returns-else-pairs-place-clause-adds : goal.returns-else-pairs-place-clause-adds
returns-else-pairs-place-clause-adds c =
    partners-all c.args.pairs.now c.args.number c.args.start c.loop-place.place c.args.numbers.now.items c.loop-place.numbers.items c.requires.in_order
    c.requires.split c.loop-place.invariant.0
    (inr (c.loop-place-test.true, c.if-pairs-place.false)) c.loop-place.invariant.1

pub returns-else-pairs-place-clause-split : goal.returns-else-pairs-place-clause-split
returns-else-pairs-place-clause-split c =
    split-next c.args.pairs.now c.args.number c.args.start c.loop-place.place c.requires.in_order c.requires.split c.loop-place.invariant.0
    (inr (c.loop-place-test.true, c.if-pairs-place.false))

pub returns-after-loop-place-clause-adds : goal.returns-after-loop-place-clause-adds
returns-after-loop-place-clause-adds c =
    partners-all c.args.pairs.now c.args.number c.args.start c.loop-place.place c.args.numbers.now.items c.loop-place.numbers.items c.requires.in_order
    c.requires.split c.loop-place.invariant.0 (inl c.loop-place-test.false) c.loop-place.invariant.1

pub returns-after-loop-place-clause-split : goal.returns-after-loop-place-clause-split
returns-after-loop-place-clause-split c =
    split-next c.args.pairs.now c.args.number c.args.start c.loop-place.place c.requires.in_order c.requires.split c.loop-place.invariant.0
    (inl c.loop-place-test.false)
