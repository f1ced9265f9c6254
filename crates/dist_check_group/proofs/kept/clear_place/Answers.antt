use Rattle.std.proofs.Common.{◌∙◌, ap, arith}
use Rattle.dist_check_group.specs.KeptPrivate.{true_places}
use Rattle.dist_check_group.proofs.KeptLemmas.{cleared-past, cleared-places}
use Rattle.dist_check_group.proofs.kept.clear_place.Goals as goal

pub returns-then-number-len-clause-cleared : goal.returns-then-number-len-clause-cleared
returns-then-number-len-clause-cleared c =
    ap true_places c.set.ensures ∙ cleared-places c.args.row.now c.args.number (omega (arith, c.len.ensures, c.if-number-len.true))

pub returns-else-number-len-clause-cleared : goal.returns-else-number-len-clause-cleared
returns-else-number-len-clause-cleared c = cleared-past c.args.row.now c.args.number (omega (arith, c.len.ensures, c.if-number-len.false))
