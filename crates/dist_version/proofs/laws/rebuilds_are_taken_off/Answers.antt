use Rattle.dist_version.proofs.Density.{rebuild_taken, rebuild_only}
use Rattle.dist_version.proofs.laws.rebuilds_are_taken_off.Goals as goal

pub returns-clause-taken : goal.returns-clause-taken
returns-clause-taken c = rebuild_taken

pub returns-clause-only : goal.returns-clause-only
returns-clause-only c = rebuild_only
