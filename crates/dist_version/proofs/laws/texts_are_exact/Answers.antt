use Rattle.dist_version.specs.TextLaws.{exact_texts, exactly_versions, one_version, no_memory_fault}
use Rattle.dist_version.proofs.laws.texts_are_exact.Goals as goal

pub returns-clause-exact : goal.returns-clause-exact
returns-clause-exact c = exact_texts

pub returns-clause-versions : goal.returns-clause-versions
returns-clause-versions c = exactly_versions

pub returns-clause-one : goal.returns-clause-one
returns-clause-one c = one_version

pub returns-clause-memory : goal.returns-clause-memory
returns-clause-memory c = no_memory_fault
