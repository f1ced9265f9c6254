use Rattle.std.proofs.lemmas.List.Filters.{dedup_is}
use Rattle.dist_repo.proofs.OfferLemmas.{numbers-from}
use Rattle.dist_repo.proofs.offers.write_numbers.Goals as goal

pub returns : goal.returns
returns c =
    numbers-from c.args.offers.now c.loop-offer.offer-index c.loop-offer.numbers.items _ c.dedup.new.self.items c.loop-offer-test.false
    c.loop-offer.invariant c.sort_unstable.ensures.permutation c.sort_unstable.ensures.sorted (dedup_is _ _ _ c.dedup.ensures.filtered)
