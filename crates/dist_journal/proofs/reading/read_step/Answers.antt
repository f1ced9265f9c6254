use Rattle.std.proofs.Common.{inr, refl}
use Rattle.dist_journal.proofs.reading.read_step.Goals as goal

pub returns-in-Ok-None-clause-answers : goal.returns-in-Ok-None-clause-answers
returns-in-Ok-None-clause-answers c = inr (refl, rw c.in-Ok-None.field-0-is at c.in-Ok-None.ensures)
