use Rattle.std.proofs.Common.{◌∙◌, arith, subst, sym}
use Rattle.dist_clause.specs.Formula.{IsClauseOver}
use Rattle.dist_cert.specs.Groups.{clause_of}
use Rattle.dist_line_check.proofs.LiteralLemmas.{all-stated, clause-over, negated-over}
use Rattle.dist_line_check.proofs.tools.Tools.refutes.Goals as goal

pub write_negated-requires : goal.write_negated-requires
write_negated-requires c = all-stated c.args.log.now.variables c.args.assumptions.now
    (omega (arith, c.keeps_invariant.ensures.variables)) c.requires.assumptions

pub follows-requires-clause-clause : goal.follows-requires-clause-clause
follows-requires-clause-clause c =
    subst (IsClauseOver c.args.log.now.variables) (sym (c.deref.ensures.value ∙ c.in_ok-write_negated.ensures))
    (negated-over c.args.log.now.variables (clause_of c.args.assumptions.now)
    (clause-over c.args.log.now.variables c.args.assumptions.now c.requires.assumptions))
