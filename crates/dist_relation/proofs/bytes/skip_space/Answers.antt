use Rattle.dist_base.specs.Ascii.{is_white}
use Rattle.dist_relation.proofs.Starts.{rest_is}
use Rattle.dist_relation.proofs.bytes.skip_space.Goals as goal

pub returns : goal.returns
returns c = rest_is is_white c.args.text.now _ _ c.space_length-length.ensures c.split_at.ensures.back
