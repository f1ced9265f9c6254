use Rattle.dist_derive.proofs.denials.Denials.new.Goals as goal

pub invariant_of-result : goal.invariant_of-result
invariant_of-result c = c.in_ok-put_in_order.ensures.rising

pub returns : goal.returns
returns c = c.in_ok-put_in_order.ensures.same c.args.clauses.now.clauses c.in_ok-pairs.ensures
