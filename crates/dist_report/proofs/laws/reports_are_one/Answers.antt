use Rattle.dist_report.proofs.ReportLaws.{always-report, one-report, some-report}
use Rattle.dist_report.proofs.laws.reports_are_one.Goals as goal

pub returns-clause-there : goal.returns-clause-there
returns-clause-there c = λ r bounds versions h made. some-report c.told_clusters_are_one.ensures.there r bounds versions h.kind h.limit made

pub returns-clause-always : goal.returns-clause-always
returns-clause-always c = λ r h made other. always-report r h.kind h.limit made other

pub returns-clause-one : goal.returns-clause-one
returns-clause-one c = λ r h made text other. one-report c.told_clusters_are_one.ensures.one r h.kind h.limit made text other
