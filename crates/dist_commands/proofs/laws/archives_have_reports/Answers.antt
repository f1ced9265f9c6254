use Rattle.dist_commands.proofs.NewestLemmas.{some-report}
use Rattle.dist_commands.proofs.laws.archives_have_reports.Goals as goal

pub returns : goal.returns
returns c = some-report c.packages_are_spelled.ensures c.classes_texts_are_one.ensures.there
