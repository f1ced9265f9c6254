use Rattle.std.proofs.Common.{subst}
use Rattle.std.specs.List.{All}
use Rattle.dist_search.specs.Search.{SearchState}
use Rattle.dist_search.specs.StepsPrivate.{IsSet}
use Rattle.dist_search.proofs.search.Search.decide.Goals as goal

pub returns-in-None : goal.returns-in-None
returns-in-None c = (c.self.view_is, subst (λ (s : SearchState). All (IsSet s.trail.literals) c.args.cone.now.members) c.self.view_is c.in-None.ensures.none)
