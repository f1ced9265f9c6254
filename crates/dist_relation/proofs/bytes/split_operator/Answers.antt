use Rattle.dist_relation.specs.Bytes.{is_operator_byte}
use Rattle.dist_relation.proofs.Starts.{rest_is}
use Rattle.dist_relation.proofs.bytes.split_operator.Goals as goal

pub returns-clause-rest : goal.returns-clause-rest
returns-clause-rest c = rest_is is_operator_byte c.args.text.now _ _ c.operator_length-length.ensures c.split_at.ensures.back
