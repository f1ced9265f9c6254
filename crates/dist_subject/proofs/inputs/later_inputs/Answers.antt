use Rattle.std.proofs.Common.{Ok, Err}
use Rattle.std.proofs.lemmas.Result.{err_from_is_err_and}
use Rattle.dist_cert.specs.declared.records.CertKind.TheVariants.{Outdated}
use Rattle.dist_subject.specs.Basis.{Later}
use Rattle.dist_subject.specs.Limited.{PassesLater}
use Rattle.dist_subject.proofs.Made.{exact, later-large, later-made}
use Rattle.dist_subject.proofs.inputs.later_inputs.Goals as goal

pub returns-in_err-space-clause-exact : goal.returns-in_err-space-clause-exact
returns-in_err-space-clause-exact c =
    let p = err_from_is_err_and c.from_residual.result c.from_residual.ensures.1 in
    rw (p.1, p.2) (exact (PassesLater c.args.repo.now c.args.essential c.args.limits.now)
    (λ what other. c.first_numbers_are_one.ensures.one c.args.repo.now Outdated c.args.essential c.args.limits.now what other
    c.keeps_invariant.ensures.in_order)
    (Err _) c.in_err-space.ensures.cause (λ what. tt))

pub returns-in_err-clauses-clause-cause : goal.returns-in_err-clauses-clause-cause
returns-in_err-clauses-clause-cause c =
    let p = err_from_is_err_and c.from_residual-in_err-clauses.result c.from_residual-in_err-clauses.ensures.1 in
    rw (p.1, p.2) (later-large c.args.repo.now c.args.essential c.args.limits.now c.in_ok-space.space c.in_ok-space.ensures.ok _
    c.in_err-clauses.ensures.cause)

pub returns-in_err-clauses-clause-exact : goal.returns-in_err-clauses-clause-exact
returns-in_err-clauses-clause-exact c =
    let p = err_from_is_err_and c.from_residual-in_err-clauses.result c.from_residual-in_err-clauses.ensures.1 in
    rw (p.1, p.2) (exact (PassesLater c.args.repo.now c.args.essential c.args.limits.now)
    (λ what other. c.first_numbers_are_one.ensures.one c.args.repo.now Outdated c.args.essential c.args.limits.now what other
    c.keeps_invariant.ensures.in_order)
    (Err _) (later-large c.args.repo.now c.args.essential c.args.limits.now c.in_ok-space.space c.in_ok-space.ensures.ok _
    c.in_err-clauses.ensures.cause) (λ what. tt))

pub returns-clause-ok : goal.returns-clause-ok
returns-clause-ok c = λ kind later.
    later-made c.args.repo.now c.args.essential c.args.limits.now c.in_ok-space.space c.in_ok-clauses.clauses c.in_ok-space.ensures.ok
    c.in_ok-clauses.ensures.set c.keeps_invariant-2.ensures.within kind later

pub returns-clause-exact : goal.returns-clause-exact
returns-clause-exact c =
    let inputs = returns-clause-ok c Outdated (λ e. cc) in
    exact (PassesLater c.args.repo.now c.args.essential c.args.limits.now)
    (λ what other. c.first_numbers_are_one.ensures.one c.args.repo.now Outdated c.args.essential c.args.limits.now what other
    c.keeps_invariant.ensures.in_order)
    (Ok _) tt (λ what. c.first_numbers_are_one.ensures.kept c.args.repo.now Outdated c.args.essential c.args.limits.now
    (Later c.in_ok-space.space c.in_ok-clauses.clauses.clauses) what inputs.is_basis inputs.kept)
