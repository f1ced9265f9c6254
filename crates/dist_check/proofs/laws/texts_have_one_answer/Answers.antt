use Rattle.dist_check.proofs.ClearKind.{clear-kind}
use Rattle.dist_check.proofs.OneAnswer.{one-answer}
use Rattle.dist_check.proofs.laws.texts_have_one_answer.Goals as goal

pub returns : goal.returns
returns c = λ r limits text one other ordered. one-answer r limits text one other (record {
  clear = clear-kind c.forms_are_clear.ensures r;
  same = λ h basis also. c.bases_are_one.ensures.one r h.kind h.essential basis also;
  kept = λ h basis what. c.first_numbers_are_one.ensures.kept r h.kind h.essential limits basis what;
  one = λ h what also. c.first_numbers_are_one.ensures.one r h.kind h.essential limits what also ordered;
})
