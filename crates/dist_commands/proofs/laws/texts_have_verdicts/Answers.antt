use Rattle.dist_commands.proofs.NewestLemmas.{newest-have-versions}
use Rattle.dist_commands.proofs.laws.texts_have_verdicts.Goals as goal

pub returns-clause-versions : goal.returns-clause-versions
returns-clause-versions c = newest-have-versions c.packages_are_spelled.ensures

pub returns-clause-verdict : goal.returns-clause-verdict
returns-clause-verdict c = λ packages stanzas r limits text read.
    c.each_text_has_a_verdict.ensures r limits text read.in_order (λ _. newest-have-versions c.packages_are_spelled.ensures packages stanzas r read)
