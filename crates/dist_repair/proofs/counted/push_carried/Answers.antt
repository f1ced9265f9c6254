use Rattle.std.proofs.Common.{◌∷◌, []}
use Rattle.dist_repair.proofs.StopLemmas.{pushed-stops, two-same}
use Rattle.dist_repair.proofs.counted.push_carried.Goals as goal

pub returns-clause-err : goal.returns-clause-err
returns-clause-err c = pushed-stops c.push.result c.args.set.now (c.new.result ∷ c.new-2.result ∷ []) _
    (two-same c.new.result c.new-2.result _ _ _ _ c.new.ensures c.new-2.ensures c.more.ensures.value c.more-2.ensures.value) c.push.ensures.cause
