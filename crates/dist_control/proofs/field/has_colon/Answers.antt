use Rattle.std.proofs.Common.{◌∙◌}
use Rattle.dist_control.proofs.FieldLemmas.{has-colon}
use Rattle.dist_control.proofs.field.has_colon.Goals as goal

pub returns : goal.returns
returns c = c.is_some.ensures ∙ has-colon c.args.line.now c.memchr.result c.memchr.ensures
