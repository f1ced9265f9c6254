use Rattle.std.proofs.Common.{◌≡◌, ◌∙◌, List, ℕ, Result, IfOk, ap, arith, length, subst}
use Rattle.dist_outside.specs.declared.trouble.WorkError.{WorkError}
use Rattle.dist_outside.specs.declared.trouble.WorkError.TheVariants.{NoMemory}
use Rattle.dist_package.specs.RepositoryOf.{IsRepositoryOf}
use Rattle.dist_repo.specs.PackageList.{PackageList}
use Rattle.dist_repo.specs.Size.{IsWithinSize}
use Rattle.dist_generate.specs.Generator.{generated}
use Rattle.dist_trial.specs.Trial.{ArchiveAnswers}
use Rattle.dist_trial.proofs.Archives.{by-exit, is-archive, told-fault, told-past, within-size}
use Rattle.dist_trial.proofs.archive.repository_of.Goals as goal

pub generate-requires-clause-some : goal.generate-requires-clause-some
generate-requires-clause-some c = c.requires.some

pub generate-requires-clause-few : goal.generate-requires-clause-few
generate-requires-clause-few c = c.requires.few

pub returns-in_err-text-clause-answers : goal.returns-in_err-text-clause-answers
returns-in_err-text-clause-answers c = by-exit (λ (r : Result PackageList WorkError). ArchiveAnswers c.args.size c.args.seed c.args.limits.now r)
    c.from_residual.result NoMemory c.from_residual.ensures.1 tt

pub returns-in_err-text-clause-within_size : goal.returns-in_err-text-clause-within_size
returns-in_err-text-clause-within_size c = by-exit (λ (r : Result PackageList WorkError). IfOk r IsWithinSize) c.from_residual.result NoMemory
    c.from_residual.ensures.1 tt

pub returns-then-len-limits-clause-answers : goal.returns-then-len-limits-clause-answers
returns-then-len-limits-clause-answers c = omega (arith, c.if-len-limits.true, c.len.ensures, c.in_ok-text.text.ok.0, ap length c.in_ok-text.ensures)

pub returns-in-Ok-clause-answers : goal.returns-in-Ok-clause-answers
returns-in-Ok-clause-answers c =
    let same : c.deref.result.now ≡ generated c.args.size c.args.seed = c.deref.ensures.value ∙ c.in_ok-text.ensures in
    is-archive c.packages_are_exact.ensures c.generated_texts_are_archives.ensures.too_many c.args.size c.args.seed c.args.limits.now c.in-Ok.repo
    c.requires.few
    (omega (arith, c.if-len-limits.false, c.len.ensures, c.in_ok-text.text.ok.0, ap length c.in_ok-text.ensures))
    (subst (λ (t : List ℕ). IsRepositoryOf t c.args.limits.now.stanzas c.in-Ok.repo) same c.in-Ok.ensures.answers)

pub returns-in-Ok-clause-within_size : goal.returns-in-Ok-clause-within_size
returns-in-Ok-clause-within_size c =
    let same : c.deref.result.now ≡ generated c.args.size c.args.seed = c.deref.ensures.value ∙ c.in_ok-text.ensures in
    within-size c.packages_are_exact.ensures c.generated_texts_are_archives.ensures.archive c.generated_texts_are_archives.ensures.too_many c.args.size
    c.args.seed c.args.limits.now.stanzas c.in-Ok.repo c.requires.few
    (subst (λ (t : List ℕ). IsRepositoryOf t c.args.limits.now.stanzas c.in-Ok.repo) same c.in-Ok.ensures.answers)

pub returns-in-Err-TooMany-clause-answers : goal.returns-in-Err-TooMany-clause-answers
returns-in-Err-TooMany-clause-answers c = (
  omega (arith, c.if-len-limits.false, c.len.ensures, c.in_ok-text.text.ok.0, ap length c.in_ok-text.ensures),
  told-past c.packages_are_exact.ensures c.generated_texts_are_archives.ensures.archive c.args.size c.args.seed c.args.limits.now.stanzas c.deref.result.now
      c.in-Err-TooMany.field-0 c.requires.few
      (c.deref.ensures.value ∙ c.in_ok-text.ensures) c.in-Err-TooMany.field-0-is c.in-Err-TooMany.ensures.answers,
)

pub unreachable-requires : goal.unreachable-requires
unreachable-requires c =
    told-fault c.packages_are_exact.ensures c.generated_texts_are_archives.ensures.archive c.generated_texts_are_archives.ensures.too_many c.args.size
    c.args.seed c.args.limits.now.stanzas c.deref.result.now
    c.in-Err-Bad.field-0 c.in-Err-Bad.field-0-0 c.requires.few (c.deref.ensures.value ∙ c.in_ok-text.ensures) c.in-Err-Bad.field-0-is
    c.in-Err-Bad.ensures.answers

pub unreachable-unreachable : goal.unreachable-unreachable
unreachable-unreachable c =
    told-fault c.packages_are_exact.ensures c.generated_texts_are_archives.ensures.archive c.generated_texts_are_archives.ensures.too_many c.args.size
    c.args.seed c.args.limits.now.stanzas c.deref.result.now
    c.in-Err-Bad.field-0 c.in-Err-Bad.field-0-0 c.requires.few (c.deref.ensures.value ∙ c.in_ok-text.ensures) c.in-Err-Bad.field-0-is
    c.in-Err-Bad.ensures.answers
