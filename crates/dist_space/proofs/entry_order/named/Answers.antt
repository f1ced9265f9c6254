use Rattle.dist_space.proofs.EntryLemmas.{part-in_order}
use Rattle.dist_space.proofs.entry_order.named.Goals as goal

pub returns-clause-in_order : goal.returns-clause-in_order
returns-clause-in_order c = λ architecture order.
    part-in_order architecture c.args.provides.now c.args.order.now c.span_of-start.result.0 c.span_of-start.result.1 c.args.name.now order
    c.span_of-start.ensures.rising c.span_of-start.ensures.within (λ j there. ((c.span_of-start.ensures.named j).0 there).1)
