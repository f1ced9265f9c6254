use Rattle.dist_repair.proofs.OneVerdict.{one, right, some}
use Rattle.dist_repair.proofs.laws.repair_texts_have_one_verdict.Goals as goal

pub returns-clause-right : goal.returns-clause-right
returns-clause-right c = λ s limits text verdict. right c.forms_are_clear.ensures c.space_clauses_are_one.ensures s limits text verdict

pub returns-clause-one : goal.returns-clause-one
returns-clause-one c = λ s limits text verdict other. one c.forms_are_clear.ensures c.space_clauses_are_one.ensures s limits text verdict other

pub returns-clause-there : goal.returns-clause-there
returns-clause-there c = λ s limits text space. some c.forms_are_clear.ensures c.space_clauses_are_one.ensures s limits text
    c.space_clauses_are_there.ensures space
