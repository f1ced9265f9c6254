use Rattle.dist_journal.proofs.TakeLemmas.{take-answer, told-err}
use Rattle.dist_journal.proofs.following.take.Goals as goal

pub returns-clause-answers : goal.returns-clause-answers
returns-clause-answers c =
    take-answer c.args.archive.now.space c.args.step c.args.archive.now.packages c.apply-said.new.self.packages c.args.number c.apply-said.result
    c.told.result c.told.ensures c.apply-said.ensures.ok c.apply-said.ensures.refused

pub returns-clause-err : goal.returns-clause-err
returns-clause-err c =
    told-err c.apply-said.new.self c.args.archive.now c.args.number c.apply-said.result c.told.result c.told.ensures c.apply-said.ensures.err
