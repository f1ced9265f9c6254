use Rattle.std.proofs.Common.{arith, refl}
use borrow.Author.Count.{below_more}
use Rattle.dist_future.specs.MatchingPrivate.{IsUnmetItem}
use Rattle.dist_future.proofs.UnmetLemmas.{count-more, place-fits, unmet-none, unmet-past}
use Rattle.dist_future.proofs.health.unmet_item.Goals as goal

pub overflow_cast-result : goal.overflow_cast-result
overflow_cast-result c =
    omega (
      arith,
      place-fits c.args.space.now.repository c.args.number c.args.package.now c.loop-place.place c.requires.within_size c.requires.number
          c.loop-place.invariant.some,
    )

pub loop-place-preserved : goal.loop-place-preserved
loop-place-preserved c =
    let items = c.args.package.now.depends in
    let place = c.loop-place.place in
    record {
      met = below_more (λ n. ¬ IsUnmetItem c.args.space.now c.args.members.now items n) place c.loop-place.invariant.met
          (unmet-none c.args.space.now c.args.members.now items place c.get.result.now c.get.ensures (c.if-not-is_met.ensures.met.0 refl));
      some = count-more items place c.get.result.now c.get.ensures c.is_met.ensures.some c.loop-place.invariant.some;
    }

pub returns : goal.returns
returns c =
    unmet-past c.args.space.now c.args.members.now c.args.package.now.depends c.loop-place.place
    (let e = c.len-place-end.ensures in omega (arith, e, c.loop-place-test.false)) c.loop-place.invariant.met
