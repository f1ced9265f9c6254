use Rattle.dist_relation.specs.Bytes.{is_word_byte}
use Rattle.dist_relation.proofs.Starts.{rest_is}
use Rattle.dist_relation.proofs.bytes.split_word.Goals as goal

pub returns-clause-rest : goal.returns-clause-rest
returns-clause-rest c = rest_is is_word_byte c.args.text.now _ _ c.word_length-length.ensures c.split_at.ensures.back
