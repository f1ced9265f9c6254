use Rattle.dist_bench.proofs.packages.clause_count.Goals as goal

pub returns : goal.returns
returns c = (c.in_ok-set.set.clauses, c.in_ok-set.ensures.answers, c.len-count.ensures.value)
