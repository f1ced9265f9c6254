use Rattle.std.proofs.Common.{◌≡◌}
use Rattle.dist_now.specs.PresentClauses.{Apart}
use Rattle.dist_explain.specs.RelationListPrivate.{AreListedBefore}
use Rattle.dist_explain.proofs.relations.add_pairs.Given as goal

abbrev pub invariant-loop-first : goal.invariant-loop-first
invariant-loop-first l = record {
  before : AreListedBefore l.repo (Apart l.first 0) l.list.items;
  same : l.partners ≡ l.repo;
}
