use Rattle.std.proofs.Common.{arith, rules}
use Rattle.dist_relation.proofs.Starts.{front_named}
use Rattle.dist_relation.proofs.reading.name_of.Goals as goal

pub from_bytes-requires : goal.from_bytes-requires
from_bytes-requires c = front_named c.args.text.now c.split_name.result.0.now (omega arith)
    (search (rules, c.is_ascii_alphanumeric.ensures.value, c.if-is_ascii_alphanumeric.true)) c.split_name.ensures.front
