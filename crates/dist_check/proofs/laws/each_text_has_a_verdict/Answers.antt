use Rattle.dist_check.proofs.SomeVerdict.{some-verdict}
use Rattle.dist_check.proofs.laws.each_text_has_a_verdict.Goals as goal

pub returns : goal.returns
returns c = some-verdict c.forms_are_clear.ensures c.bases_are_one.ensures.today c.bases_are_one.ensures.there
