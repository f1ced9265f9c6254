use Rattle.dist_explain.proofs.Verdicts.{one, right, some}
use Rattle.dist_explain.proofs.laws.explanation_texts_have_one_verdict.Goals as goal

pub returns-clause-right : goal.returns-clause-right
returns-clause-right c = λ r limits text verdict ordered. right (record {
  clear = c.forms_are_clear.ensures;
  present = c.present_clauses_are_one.ensures;
  kept = c.first_numbers_are_one.ensures.kept;
  one = c.first_numbers_are_one.ensures.one;
}) r ordered limits text verdict

pub returns-clause-one : goal.returns-clause-one
returns-clause-one c = λ r limits text verdict other ordered. one (record {
  clear = c.forms_are_clear.ensures;
  present = c.present_clauses_are_one.ensures;
  kept = c.first_numbers_are_one.ensures.kept;
  one = c.first_numbers_are_one.ensures.one;
}) r ordered limits text verdict other

pub returns-clause-there : goal.returns-clause-there
returns-clause-there c = λ r limits text ordered. some (record {
  clear = c.forms_are_clear.ensures;
  present = c.present_clauses_are_one.ensures;
  kept = c.first_numbers_are_one.ensures.kept;
  one = c.first_numbers_are_one.ensures.one;
}) r ordered limits text c.present_clauses_are_there.ensures
