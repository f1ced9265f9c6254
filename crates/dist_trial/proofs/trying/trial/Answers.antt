use Rattle.std.proofs.Common.{Result}
use Rattle.dist_base.specs.Answers.{IsExactly}
use Rattle.dist_outside.specs.declared.trouble.What.TheVariants.{Bytes, Stanzas}
use Rattle.dist_outside.specs.declared.trouble.WorkError.{WorkError}
use Rattle.dist_outside.specs.declared.trouble.WorkError.TheVariants.{NoMemory, TooLarge}
use Rattle.dist_trial.specs.Trial.{Tells, TrialAnswers}
use Rattle.dist_trial.specs.declared.trials.Trial.{Trial}
use Rattle.dist_trial.proofs.Archives.{by-exit}
use Rattle.dist_trial.proofs.Exact.{IsOver, IsPast, PassesOfArchive, archive-bytes, archive-first, archive-stanzas, archive-stops, swept-answers}
use Rattle.dist_trial.proofs.Exact.{swept-bytes, swept-first, swept-stanzas}
use Rattle.dist_trial.proofs.trying.trial.Goals as goal

pub repository_of-requires-clause-some : goal.repository_of-requires-clause-some
repository_of-requires-clause-some c = c.requires.some

pub repository_of-requires-clause-few : goal.repository_of-requires-clause-few
repository_of-requires-clause-few c = c.requires.few

pub swept-requires-clause-size : goal.swept-requires-clause-size
swept-requires-clause-size c = c.in_ok-repo.ensures.within_size

pub swept-requires-clause-limits : goal.swept-requires-clause-limits
swept-requires-clause-limits c = c.requires.limits

pub returns-in_err-repo-clause-answers : goal.returns-in_err-repo-clause-answers
returns-in_err-repo-clause-answers c =
    by-exit (λ (r : Result Trial WorkError). TrialAnswers c.args.size c.args.seed c.args.limits.now r) c.from_residual.result c.in_err-repo.field-0.0
    c.from_residual.ensures.1
    (archive-stops c.args.size c.args.seed c.args.limits.now c.in_err-repo.field-0.0 c.in_err-repo.ensures.answers)

pub returns-in_err-repo-clause-too_many_bytes : goal.returns-in_err-repo-clause-too_many_bytes
returns-in_err-repo-clause-too_many_bytes c =
    by-exit (λ (r : Result Trial WorkError). IsExactly NoMemory r (TooLarge Bytes) (IsOver c.args.size c.args.seed c.args.limits.now)) c.from_residual.result
    c.in_err-repo.field-0.0 c.from_residual.ensures.1
    (archive-bytes c.args.size c.args.seed c.args.limits.now c.in_err-repo.field-0.0 c.in_err-repo.ensures.answers)

pub returns-in_err-repo-clause-too_many_stanzas : goal.returns-in_err-repo-clause-too_many_stanzas
returns-in_err-repo-clause-too_many_stanzas c =
    by-exit (λ (r : Result Trial WorkError). IsExactly NoMemory r (TooLarge Stanzas) (IsPast c.args.size c.args.seed c.args.limits.now)) c.from_residual.result
    c.in_err-repo.field-0.0 c.from_residual.ensures.1
    (archive-stanzas c.args.size c.args.seed c.args.limits.now c.in_err-repo.field-0.0 c.in_err-repo.ensures.answers)

pub returns-clause-answers : goal.returns-clause-answers
returns-clause-answers c = swept-answers c.args.size c.args.seed c.args.limits.now c.in_ok-repo.repo c.in_ok-repo.ensures.answers c.swept.result
    c.swept.ensures.answers

pub returns-clause-too_many_bytes : goal.returns-clause-too_many_bytes
returns-clause-too_many_bytes c = swept-bytes c.args.size c.args.seed c.args.limits.now c.in_ok-repo.repo c.in_ok-repo.ensures.answers c.swept.result
    c.swept.ensures.answers

pub returns-clause-too_many_stanzas : goal.returns-clause-too_many_stanzas
returns-clause-too_many_stanzas c = swept-stanzas c.args.size c.args.seed c.args.limits.now c.in_ok-repo.repo c.in_ok-repo.ensures.answers c.swept.result
    c.swept.ensures.answers

pub returns-in_err-repo-clause-first : goal.returns-in_err-repo-clause-first
returns-in_err-repo-clause-first c =
    by-exit (λ (r : Result Trial WorkError). Tells (PassesOfArchive c.args.size c.args.seed c.args.limits.now) r) c.from_residual.result
    c.in_err-repo.field-0.0 c.from_residual.ensures.1
    (archive-first c.args.size c.args.seed c.args.limits.now c.in_err-repo.field-0.0 c.in_err-repo.ensures.answers)

pub returns-clause-first : goal.returns-clause-first
returns-clause-first c =
    swept-first c.args.size c.args.seed c.args.limits.now c.in_ok-repo.repo c.in_ok-repo.ensures.answers c.packages_are_exact.ensures c.swept.result
    c.swept.ensures.first
