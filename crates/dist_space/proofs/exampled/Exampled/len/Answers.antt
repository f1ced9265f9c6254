use Rattle.std.proofs.Common.{subst}
use Rattle.dist_space.specs.Kept.{AreExampled}
use Rattle.dist_space.proofs.exampled.Exampled.len.Goals as goal

pub returns-clause-each : goal.returns-clause-each
returns-clause-each c = subst AreExampled c.self.view_is c.self.invariant.each
