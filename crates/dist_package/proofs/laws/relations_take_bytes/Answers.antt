use Rattle.dist_package.proofs.Bytes.{bounded}
use Rattle.dist_package.proofs.laws.relations_take_bytes.Goals as goal

pub returns : goal.returns
returns c = bounded c.items_take_bytes.ensures.depends c.items_take_bytes.ensures.atoms c.items_take_bytes.ensures.provides c.each_stands_once.ensures.relations
    c.values_take_bytes.ensures
