use Rattle.std.proofs.Common.{◌∷◌, []}
use Rattle.dist_repair.proofs.StopLemmas.{pushed-stops, three-same}
use Rattle.dist_repair.proofs.counted.push_next.Goals as goal

pub returns-clause-err : goal.returns-clause-err
returns-clause-err c = pushed-stops c.push.result c.args.set.now (c.new.result ∷ c.new-2.result ∷ c.new-3.result ∷ []) _
    (three-same c.new.result c.new-2.result c.new-3.result _ _ _ _ _ _ c.new.ensures c.new-2.ensures c.new-3.ensures
    c.moved.ensures.value c.more.ensures.value c.more-2.ensures.value) c.push.ensures.cause
