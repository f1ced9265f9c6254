use Rattle.dist_repair.proofs.WordLemmas.{back-number, front-number}
use Rattle.dist_repair.proofs.words.Words.number_of.Goals as goal

pub returns-then-is_own : goal.returns-then-is_own
returns-then-is_own c = front-number c.args.self.now c.args.question.now c.if-question-ne2.false (c.is_own.ensures.0 c.if-is_own.true)
    c.number_in.result c.number_in.ensures

pub returns-then-is_own-2 : goal.returns-then-is_own-2
returns-then-is_own-2 c = back-number c.args.self.now c.args.question.now c.if-question-ne2.false (c.is_own-2.ensures.0 c.if-is_own-2.true)
    c.number_in-then-is_own-2.result c.number_in-then-is_own-2.ensures
