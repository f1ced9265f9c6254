use Rattle.std.proofs.Common.{◌++◌, ◌/◌}
use Rattle.std.specs.Prelude.{codes, decimal}
use Rattle.dist_generate.proofs.Adding.{four-lines}
use Rattle.dist_generate.proofs.stanzas.add_head.Goals as goal

pub returns : goal.returns
returns c =
    four-lines _ _ _ _ _ (codes "Package: g" ++ decimal c.args.number) (codes "Version: 1." ++ decimal c.args.digit) (codes "Architecture: all")
    (codes "Source: s" ++ decimal (c.args.number / 2))
    c.in_ok-add_line.ensures c.in_ok-add_line-2.ensures c.in_ok-extend_from_slice.ensures.items c.in_ok-add_line-3.ensures
