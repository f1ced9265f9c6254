use Rattle.dist_repair.proofs.ModelLemmas.{counted-tell, moves-of-model}
use Rattle.dist_repair.proofs.OverLemmas.{space-over}
use Rattle.dist_repair.proofs.laws.counters_count_moves.Goals as goal

pub returns-clause-counted : goal.returns-clause-counted
returns-clause-counted c = λ s clauses most space are.
    let tell = c.models_tell_of_moves.ensures s clauses space are in
    let moves = moves-of-model s clauses tell (λ values model. c.each_model_is_a_future.ensures s clauses values space are model) in
    counted-tell s space clauses most tell moves (space-over s space clauses are)

pub returns-clause-moves : goal.returns-clause-moves
returns-clause-moves c = λ s clauses space are. moves-of-model s clauses (c.models_tell_of_moves.ensures s clauses space are)
    (λ values model. c.each_model_is_a_future.ensures s clauses values space are model)
