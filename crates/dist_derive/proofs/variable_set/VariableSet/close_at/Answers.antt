use Rattle.dist_derive.proofs.GrowingLemmas.{Grows-none, closed_has}
use Rattle.dist_derive.proofs.variable_set.VariableSet.close_at.Goals as goal

pub returns-then-has_negatives-clause-least : goal.returns-then-has_negatives-clause-least
returns-then-has_negatives-clause-least c = λ has all closed.
    c.include_all.ensures.least has all (closed_has has c.args.self.now.members c.args.clause.now all closed
    (c.has_negatives.ensures.0 c.if-has_negatives.true))

pub returns-else-has_negatives-clause-grows : goal.returns-else-has_negatives-clause-grows
returns-else-has_negatives-clause-grows c = Grows-none c.args.self.now
