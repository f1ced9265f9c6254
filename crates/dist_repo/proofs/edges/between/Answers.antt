use Rattle.dist_repo.proofs.EdgeLemmas.{stands-between}
use Rattle.dist_repo.proofs.edges.between.Goals as goal

pub returns-then-start-end : goal.returns-then-start-end
returns-then-start-end c = stands-between c.args.offers.now c.args.start c.args.end c.requires
