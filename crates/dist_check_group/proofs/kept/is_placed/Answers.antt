use Rattle.std.proofs.Common.{◌∙◌, arith, sym}
use Rattle.std.proofs.lemmas.Bool.{le-ltb}
use Rattle.dist_check_group.proofs.KeptLemmas.{among-true, placed-past}
use Rattle.dist_check_group.proofs.kept.is_placed.Goals as goal

pub returns-then-number-len : goal.returns-then-number-len
returns-then-number-len c = c.get.ensures ∙ sym (among-true c.args.row.now c.args.number)

pub returns-else-number-len : goal.returns-else-number-len
returns-else-number-len c =
    le-ltb c.args.number c.len.result c.if-number-len.false
    ∙ sym (placed-past c.args.row.now c.args.number (omega (arith, c.len.ensures, c.if-number-len.false)))
