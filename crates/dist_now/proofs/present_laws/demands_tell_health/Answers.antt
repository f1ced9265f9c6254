use Rattle.dist_now.proofs.RelationLemmas.{fails-decided, fails-same, healthy-by-demands, members-by-values, true-by-demand, values-of}
use Rattle.dist_now.proofs.present_laws.demands_tell_health.Goals as goal

pub returns-clause-healthy : goal.returns-clause-healthy
returns-clause-healthy c = healthy-by-demands

pub returns-clause-clauses : goal.returns-clause-clauses
returns-clause-clauses c = true-by-demand

pub returns-clause-values : goal.returns-clause-values
returns-clause-values c = values-of

pub returns-clause-same : goal.returns-clause-same
returns-clause-same c = fails-same

pub returns-clause-members : goal.returns-clause-members
returns-clause-members c = members-by-values

pub returns-clause-decided : goal.returns-clause-decided
returns-clause-decided c = fails-decided
