use Rattle.std.proofs.Common.{◌∙◌}
use Rattle.dist_cert.specs.RisingLaws.{searched-among}
use Rattle.dist_covering.proofs.group.has.Goals as goal

pub returns : goal.returns
returns c = c.is_ok.ensures.value ∙ searched-among c.args.numbers.now c.args.number c.binary_search.result c.requires c.binary_search.ensures.position
