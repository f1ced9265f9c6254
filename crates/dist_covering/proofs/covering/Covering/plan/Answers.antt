use Rattle.std.proofs.Common.{◌-◌}
use Rattle.std.specs.Prelude.{slice_index}
use Rattle.dist_covering.specs.PairLaws.{all-inside}
use Rattle.dist_covering.proofs.covering.Covering.plan.Goals as goal

pub strike-requires-clause-inside : goal.strike-requires-clause-inside
strike-requires-clause-inside c =
    all-inside c.args.self.now.space (slice_index c.args.self.now.space.cluster_of (c.args.package - 1)) c.in_ok-ats.ats.items c.in_ok-ats.ensures.pairs
