use Rattle.std.proofs.Common.{false}
use Rattle.dist_repo.proofs.SpanLemmas.{edge-all, span-from}
use Rattle.dist_repo.proofs.spans.span_of.Goals as goal

pub edge_within-start-requires-clause-within : goal.edge_within-start-requires-clause-within
edge_within-start-requires-clause-within c = edge-all c.args.packages.now c.args.name.now false

pub returns : goal.returns
returns c =
    span-from c.args.packages.now c.args.name.now c.edge_within-start.result c.edge_within-start.ensures c.edge_within-end.result c.edge_within-end.ensures
