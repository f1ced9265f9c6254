use Rattle.dist_repair.proofs.AcceptedLemmas.{accepted-say}
use Rattle.dist_repair.proofs.laws.accepted_repairs_hold.Goals as goal

pub returns : goal.returns
returns c = λ s limits text numbers h repair space header answered.
    accepted-say s space c.forms_are_clear.ensures c.lines_keep_models.ensures.what_follows c.new_lines_are_few.ensures (record {
      tell = λ clauses are. c.models_tell_of_moves.ensures s clauses space are;
      tells = λ clauses are. c.counters_count_moves.ensures.moves s clauses space are;
      counted = λ clauses most are. c.counters_count_moves.ensures.counted s clauses most space are;
    }) limits text numbers h repair header answered
