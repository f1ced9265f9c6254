use Rattle.std.proofs.Common.{sym, subst}
use Rattle.dist_commands.specs.DuePrivate.{IsPartGivenUp}
use Rattle.dist_commands.specs.Try.{Tries, TryStages}
use Rattle.dist_commands.specs.declared.refusal.Refusal.{Refusal}
use Rattle.dist_commands.proofs.Trying.{tried, untried}
use Rattle.dist_commands.proofs.try_command.run_try.Goals as goal

pub returns-in-Ok-clause-answers : goal.returns-in-Ok-clause-answers
returns-in-Ok-clause-answers c =
    tried c.args.words.now.size c.args.words.now.seed c.args.limits.now c.in-Ok.trial c.marked_status.result c.in-Ok.ensures.first
    c.in-Ok.ensures.answers c.marked_status.ensures

pub returns-in-Err-clause-stops : goal.returns-in-Err-clause-stops
returns-in-Err-clause-stops c = λ files.
    subst (λ (why : Refusal). IsPartGivenUp (TryStages files c.args.limits.now c.args.words.now.size c.args.words.now.seed
    (Tries files c.args.limits.now c.args.words.now.size)) files why) (sym c.refusal_of.ensures)
    (untried c.args.words.now.size c.args.words.now.seed c.args.limits.now c.in-Err.error c.in-Err.ensures.first c.in-Err.ensures.answers files)
