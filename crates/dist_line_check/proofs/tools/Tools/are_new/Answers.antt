use Rattle.std.proofs.Common.{◌∙◌, arith, subst, sym}
use Rattle.dist_clause.specs.Formula.{IsClauseOver}
use Rattle.dist_line_check.proofs.LiteralLemmas.{all-stated, clause-over}
use Rattle.dist_line_check.proofs.tools.Tools.are_new.Goals as goal

pub write_clause-requires : goal.write_clause-requires
write_clause-requires c = all-stated c.args.log.now.variables c.args.assumptions.now
    (omega (arith, c.keeps_invariant.ensures.variables)) c.requires.assumptions

pub are_new-requires-clause-assumptions : goal.are_new-requires-clause-assumptions
are_new-requires-clause-assumptions c =
    subst (IsClauseOver c.args.log.now.variables) (sym (c.deref.ensures.value ∙ c.in_ok-write_clause.ensures))
    (clause-over c.args.log.now.variables c.args.assumptions.now c.requires.assumptions)
