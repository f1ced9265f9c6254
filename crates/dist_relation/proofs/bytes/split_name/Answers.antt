use Rattle.dist_relation.specs.Bytes.{is_name_byte}
use Rattle.dist_relation.proofs.Starts.{rest_is}
use Rattle.dist_relation.proofs.bytes.split_name.Goals as goal

pub returns-clause-rest : goal.returns-clause-rest
returns-clause-rest c = rest_is is_name_byte c.args.text.now _ _ c.name_length-length.ensures c.split_at.ensures.back
