use Rattle.std.proofs.Common.{sym, subst}
use Rattle.dist_outside.specs.declared.trouble.WorkError.{WorkError}
use Rattle.dist_judge.specs.Causes.{IsLarge}
use Rattle.dist_subject.specs.InputsPrivate.{PassesSpace}
use Rattle.dist_subject.proofs.Made.{space-large}
use Rattle.dist_subject.proofs.inputs.space_clauses.Goals as goal

pub returns-in-Err-clause-cause : goal.returns-in-Err-clause-cause
returns-in-Err-clause-cause c =
    subst (λ (e : WorkError). IsLarge (PassesSpace c.args.space.now c.args.limits.now) e) (sym c.too_large.ensures)
    (space-large c.args.space.now c.args.limits.now c.in-Err.error c.in-Err.ensures.too_many_clauses c.in-Err.ensures.too_many_literals)
