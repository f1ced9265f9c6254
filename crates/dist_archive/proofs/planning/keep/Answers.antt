use Rattle.std.proofs.lemmas.Result.{on_ok_weaker}
use Rattle.dist_archive.proofs.PlanningLemmas.{added-more}
use Rattle.dist_archive.proofs.planning.keep.Goals as goal

pub returns-clause-holds : goal.returns-clause-holds
returns-clause-holds c =
    on_ok_weaker c.told.result (added-more c.args.builder.now c.add-added.new.self c.args.fresh c.add-added.result c.add-added.ensures.new
    (λ is. c.add-added.ensures.same.0 is) c.add-added.ensures.kept) c.told.ensures
