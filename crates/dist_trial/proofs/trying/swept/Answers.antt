use Rattle.std.proofs.Common.{false, Ok, Result}
use Rattle.dist_cert.specs.declared.records.CertKind.TheVariants.{Strong, Outdated, Challenged}
use Rattle.dist_outside.specs.declared.trouble.WorkError.{WorkError}
use Rattle.dist_outside.specs.declared.trouble.WorkError.TheVariants.{NoMemory}
use Rattle.dist_subject.specs.Limited.{PassesFirst}
use Rattle.dist_trial.specs.Trial.{Tells}
use Rattle.dist_trial.specs.declared.trials.Trial.{Trial}
use Rattle.dist_trial.proofs.Archives.{by-exit}
use Rattle.dist_trial.proofs.Sweeps.{GivesTrial, kind-stops, tells-any, tells-err}
use Rattle.dist_trial.proofs.trying.swept.Goals as goal

pub claims_of-requires-clause-size : goal.claims_of-requires-clause-size
claims_of-requires-clause-size c = c.requires.size

pub claims_of-requires-clause-limits : goal.claims_of-requires-clause-limits
claims_of-requires-clause-limits c = c.requires.limits

pub returns-in_err-strong-clause-answers : goal.returns-in_err-strong-clause-answers
returns-in_err-strong-clause-answers c =
    by-exit (GivesTrial c.args.size c.args.repo.now c.args.limits.now) c.from_residual.result c.in_err-strong.field-0.0 c.from_residual.ensures.1
    (kind-stops c.args.size c.args.repo.now Strong c.args.limits.now c.in_err-strong.field-0.0 c.in_err-strong.ensures.answers)

pub returns-in_err-strong-clause-first : goal.returns-in_err-strong-clause-first
returns-in_err-strong-clause-first c =
    let Passes = PassesFirst c.args.repo.now Strong false c.args.limits.now in
    by-exit (λ (r : Result Trial WorkError). Tells Passes r) c.from_residual.result c.in_err-strong.field-0.0 c.from_residual.ensures.1
    (tells-err Passes c.in_err-strong.field-0.0 c.in_err-strong.ensures.first)

pub claims_of-requires-2-clause-size : goal.claims_of-requires-2-clause-size
claims_of-requires-2-clause-size c = c.requires.size

pub claims_of-requires-2-clause-limits : goal.claims_of-requires-2-clause-limits
claims_of-requires-2-clause-limits c = c.requires.limits

pub returns-in_err-outdated-clause-answers : goal.returns-in_err-outdated-clause-answers
returns-in_err-outdated-clause-answers c =
    by-exit (GivesTrial c.args.size c.args.repo.now c.args.limits.now)
    c.from_residual-in_err-outdated.result c.in_err-outdated.field-0.0 c.from_residual-in_err-outdated.ensures.1
    (kind-stops c.args.size c.args.repo.now Outdated c.args.limits.now c.in_err-outdated.field-0.0 c.in_err-outdated.ensures.answers)

pub returns-in_err-outdated-clause-first : goal.returns-in_err-outdated-clause-first
returns-in_err-outdated-clause-first c =
    tells-any (PassesFirst c.args.repo.now Strong false c.args.limits.now) c.in_ok-strong.strong
    c.from_residual-in_err-outdated.result c.in_ok-strong.ensures.first

pub claims_of-requires-3-clause-size : goal.claims_of-requires-3-clause-size
claims_of-requires-3-clause-size c = c.requires.size

pub claims_of-requires-3-clause-limits : goal.claims_of-requires-3-clause-limits
claims_of-requires-3-clause-limits c = c.requires.limits

pub returns-in_err-challenged-clause-answers : goal.returns-in_err-challenged-clause-answers
returns-in_err-challenged-clause-answers c =
    by-exit (GivesTrial c.args.size c.args.repo.now c.args.limits.now)
    c.from_residual-in_err-challenged.result c.in_err-challenged.field-0.0 c.from_residual-in_err-challenged.ensures.1
    (kind-stops c.args.size c.args.repo.now Challenged c.args.limits.now c.in_err-challenged.field-0.0 c.in_err-challenged.ensures.answers)

pub returns-in_err-challenged-clause-first : goal.returns-in_err-challenged-clause-first
returns-in_err-challenged-clause-first c =
    tells-any (PassesFirst c.args.repo.now Strong false c.args.limits.now) c.in_ok-strong.strong
    c.from_residual-in_err-challenged.result c.in_ok-strong.ensures.first

pub told-requires-clause-strong : goal.told-requires-clause-strong
told-requires-clause-strong c = c.in_ok-strong.ensures.few

pub told-requires-clause-outdated : goal.told-requires-clause-outdated
told-requires-clause-outdated c = c.in_ok-outdated.ensures.few

pub told-requires-clause-challenged : goal.told-requires-clause-challenged
told-requires-clause-challenged c = c.in_ok-challenged.ensures.few

pub returns-in_err-told-clause-answers : goal.returns-in_err-told-clause-answers
returns-in_err-told-clause-answers c =
    by-exit (GivesTrial c.args.size c.args.repo.now c.args.limits.now)
    c.from_residual-in_err-told.result NoMemory c.from_residual-in_err-told.ensures.1 tt

pub returns-in_err-told-clause-first : goal.returns-in_err-told-clause-first
returns-in_err-told-clause-first c =
    tells-any (PassesFirst c.args.repo.now Strong false c.args.limits.now) c.in_ok-strong.strong
    c.from_residual-in_err-told.result c.in_ok-strong.ensures.first

pub returns-clause-answers : goal.returns-clause-answers
returns-clause-answers c = record {
  strong = c.in_ok-strong.strong;
  outdated = c.in_ok-outdated.outdated;
  challenged = c.in_ok-challenged.challenged;
  are_strong = c.in_ok-strong.ensures.answers;
  are_outdated = c.in_ok-outdated.ensures.answers;
  are_challenged = c.in_ok-challenged.ensures.answers;
  summary = c.in_ok-told.ensures.summary;
  undecided = c.in_ok-told.ensures.undecided;
}

pub returns-clause-first : goal.returns-clause-first
returns-clause-first c =
    tells-any (PassesFirst c.args.repo.now Strong false c.args.limits.now) c.in_ok-strong.strong (Ok c.in_ok-told.field-0) c.in_ok-strong.ensures.first
