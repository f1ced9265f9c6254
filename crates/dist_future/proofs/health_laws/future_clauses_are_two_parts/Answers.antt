use Rattle.dist_future.proofs.EndLemmas.{around-future, future-around}
use Rattle.dist_future.proofs.health_laws.future_clauses_are_two_parts.Goals as goal

pub returns : goal.returns
returns c = λ s clauses ends values are of. (future-around s values clauses ends are of, around-future s values clauses ends are of)
