use Rattle.std.proofs.Common.{sym, ◌∙◌}
use Rattle.dist_space_clauses.proofs.NameFronts.{plain-end}
use Rattle.dist_space_clauses.proofs.clauses.push_required.Goals as goal

pub returns-clause-ok : goal.returns-clause-ok
returns-clause-ok c =
    plain-end c.args.space.now c.args.set.now c.args.set.now (sym c.essential.ensures ∙ c.if-essential.false) c.requires.front
