use Rattle.std.proofs.Common.{ap}
use Rattle.dist_base.specs.declared.TheConstants.{MAX_LINES, MAX_LINE_LITERALS}
use Rattle.dist_bench.proofs.QuestionLemmas.{log-of}
use Rattle.dist_bench.proofs.questions.solver_of.Goals as goal

pub returns : goal.returns
returns c =
    log-of c.args.repository.now c.args.essential c.in_ok-set.set.clauses c.in_ok-set.set.variables MAX_LINES MAX_LINE_LITERALS c.in_ok-new.field-0.log
    (ap (λ s. s.log) c.in_ok-new.ensures) c.in_ok-set.ensures.answers c.in_ok-set.ensures.variables
