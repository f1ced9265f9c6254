use Rattle.std.proofs.Common.{◌∙◌, arith, subst, sym}
use Rattle.dist_clause.specs.Formula.{IsClauseOver}
use Rattle.dist_line_check.proofs.LiteralLemmas.{all-stated, clause-over}
use Rattle.dist_line_check.proofs.tools.Tools.append.Goals as goal

pub write_clause-requires : goal.write_clause-requires
write_clause-requires c = all-stated c.args.log.now.variables c.args.literals.now
    (omega (arith, c.keeps_invariant.ensures.variables)) c.requires

pub append-requires : goal.append-requires
append-requires c =
    subst (IsClauseOver c.args.log.now.variables) (sym (c.deref.ensures.value ∙ c.in_ok-write_clause.ensures))
    (clause-over c.args.log.now.variables c.args.literals.now c.requires)
