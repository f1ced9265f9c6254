use Rattle.dist_repo.proofs.OwnLemmas.{offers-between, order-between}
use Rattle.dist_repo.proofs.own.offers_named.Goals as goal

pub returns-clause-exact : goal.returns-clause-exact
returns-clause-exact c = offers-between c.args.packages.now c.args.name.now _ _ c.span_of-start.ensures c.args.offers.now c.requires.offers

pub returns-clause-in_order : goal.returns-clause-in_order
returns-clause-in_order c =
    order-between c.args.packages.now c.args.name.now _ _ c.args.offers.now c.requires.in_order c.span_of-start.ensures c.requires.offers
