use Rattle.dist_repair.proofs.OneAnswerLemmas.{one-result}
use Rattle.dist_repair.proofs.laws.repairs_have_one_answer.Goals as goal

pub returns : goal.returns
returns c = λ s limits text result other x y. one-result c.space_clauses_are_one.ensures s c.forms_are_clear.ensures limits text result other x y
