use Rattle.dist_list.proofs.Lists.{Names-two}
use Rattle.dist_list.proofs.list.read_line.Goals as goal

pub returns-in-Ok-Some : goal.returns-in-Ok-Some
returns-in-Ok-Some c =
    Names-two c.args.repository.now.packages c.args.line.now c.in-Two.name.now c.in-Two.version.now c.in-Ok-Some.number c.in-Ok-Some.field-0
    c.in-Two.ensures c.in-Ok-Some.ensures c.in-Ok-Some.field-0-is
