use Rattle.dist_report.proofs.PlainLemmas.{plain-class, plain-label, plain-name, plain-version}
use Rattle.dist_report.proofs.laws.strings_are_plain.Goals as goal

pub returns-clause-names : goal.returns-clause-names
returns-clause-names c = plain-name

pub returns-clause-versions : goal.returns-clause-versions
returns-clause-versions c = plain-version

pub returns-clause-labels : goal.returns-clause-labels
returns-clause-labels c = plain-label

pub returns-clause-classes : goal.returns-clause-classes
returns-clause-classes c = plain-class
