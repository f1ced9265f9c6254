use Rattle.dist_bench.proofs.Spaces.{counts-of}
use Rattle.dist_bench.proofs.future_clauses.counts_of.Goals as goal

pub returns : goal.returns
returns c = counts-of c.args.text.now c.in_ok-space.space c.counts_of_space-counts.result c.in_ok-space.ensures c.counts_of_space-counts.ensures
