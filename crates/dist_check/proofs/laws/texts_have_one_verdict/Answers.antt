use Rattle.dist_check.proofs.OneVerdict.{right, one}
use Rattle.dist_check.proofs.laws.texts_have_one_verdict.Goals as goal

pub returns-clause-right : goal.returns-clause-right
returns-clause-right c = right c.forms_are_clear.ensures

pub returns-clause-one : goal.returns-clause-one
returns-clause-one c = λ r. one c.forms_are_clear.ensures r (λ h basis also. c.bases_are_one.ensures.one r h.kind h.essential basis also)
