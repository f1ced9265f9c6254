use Rattle.dist_bench.proofs.future_clauses.counts_of_space.Goals as goal

pub returns : goal.returns
returns c = (c.in_ok-set.set.clauses, c.in_ok-set.ensures, c.len.ensures.value, c.literal_count.ensures)
