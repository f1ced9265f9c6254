use Rattle.dist_explain.proofs.OneExplanation.{one-answer, one-passed}
use Rattle.dist_explain.proofs.laws.explanations_have_one_answer.Goals as goal

pub returns-clause-answer : goal.returns-clause-answer
returns-clause-answer c = λ r limits text result other ordered. one-answer (record {
  clear = c.forms_are_clear.ensures;
  present = c.present_clauses_are_one.ensures;
  kept = c.first_numbers_are_one.ensures.kept;
  one = c.first_numbers_are_one.ensures.one;
}) r ordered limits text result other

pub returns-clause-number : goal.returns-clause-number
returns-clause-number c = λ r limits number other ordered. one-passed (record {
  clear = c.forms_are_clear.ensures;
  present = c.present_clauses_are_one.ensures;
  kept = c.first_numbers_are_one.ensures.kept;
  one = c.first_numbers_are_one.ensures.one;
}) r ordered limits number other
