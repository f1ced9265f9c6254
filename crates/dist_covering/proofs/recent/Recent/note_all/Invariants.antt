use Rattle.std.proofs.Common.{◌-◌}
use Rattle.dist_covering.proofs.recent.Recent.note_all.Given as goal

abbrev pub decreases-noted : goal.decreases-noted
decreases-noted l = l.last - l.variable
