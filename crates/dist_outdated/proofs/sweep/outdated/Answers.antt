use Rattle.std.proofs.Common.{[], length, refl, subst, sym, arith}
use Rattle.dist_cert.specs.declared.records.CertKind.TheVariants.{Outdated}
use Rattle.dist_subject.specs.Basis.{Later}
use Rattle.dist_sweep.specs.Sweeping.{setting_of}
use Rattle.dist_sweep.specs.Futures.{FitsSpace}
use Rattle.dist_outdated.specs.OutdatedPrivate.{OutdatedView, KeepsOutdated}
use Rattle.dist_outdated.proofs.Starts.{outdated-starts}
use Rattle.dist_outdated.proofs.LaterKinds.{outdated-is-later}
use Rattle.dist_outdated.proofs.sweep.outdated.Goals as goal

pub write_sweep-claims-requires-clause-fits : goal.write_sweep-claims-requires-clause-fits
write_sweep-claims-requires-clause-fits g c = λ p from upto.
    let inputs = c.in_ok-inputs.inputs in
    let are = c.in_ok-inputs.ensures.ok Outdated outdated-is-later in
    let count = c.package_count.ensures in
    subst (λ (view : OutdatedView). FitsSpace view.space inputs.clauses.variables p) (sym c.in_ok-claimant.ensures)
    (record { variables_are = are.variables; upto = omega (arith, upto, count) })

pub returns-clause-answers : goal.returns-clause-answers
returns-clause-answers g c =
    let inputs = c.in_ok-inputs.inputs in
    let space = inputs.space in
    let basis = Later space inputs.clauses.clauses in
    let setting = setting_of c.args.repo.now Outdated c.args.essential c.args.limit c.args.limits.now basis in
    c.write_sweep-claims.ensures c.args.repo.now basis c.keeps_invariant.ensures.in_order
    (c.in_ok-inputs.ensures.ok Outdated outdated-is-later) c.package_count.ensures
    (subst (λ (view : OutdatedView). KeepsOutdated setting [] view) (sym c.in_ok-claimant.ensures)
    (outdated-starts setting space (length space.repository.packages) (record { kind_is = refl; inputs = inputs.clauses.clauses; later = refl })))
