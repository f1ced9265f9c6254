use Rattle.dist_search.proofs.ContainmentLemmas.{All-item}
use Rattle.dist_search.specs.AnalysisPrivate.{HasValue}
use Rattle.dist_search.proofs.analysis.Walk.is_implied.Goals as goal

pub is_settled-requires-clause-valued : goal.is_settled-requires-clause-valued
is_settled-requires-clause-valued c = All-item (HasValue c.args.trail.now.literals) c.args.clause.now c.loop-literal.literal-index c.literal-item.result
    c.loop-literal-test.true c.literal-item.is c.requires.valued
