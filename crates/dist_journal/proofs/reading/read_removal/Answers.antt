use Rattle.std.proofs.Common.{inr}
use Rattle.dist_journal.proofs.reading.read_removal.Goals as goal

pub returns-in-Some-clause-answers : goal.returns-in-Some-clause-answers
returns-in-Some-clause-answers c = λ s limit packages. inr (c.args.name, c.requires.says, c.in-Some.ensures)

pub returns-in-None-clause-answers : goal.returns-in-None-clause-answers
returns-in-None-clause-answers c = λ s limit packages. (c.requires.says, c.in-None.ensures)
