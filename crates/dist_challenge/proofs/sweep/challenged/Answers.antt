use Rattle.std.proofs.Common.{[], refl, subst, sym, arith}
use Rattle.dist_cert.specs.declared.records.CertKind.TheVariants.{Challenged}
use Rattle.dist_subject.specs.Basis.{Later}
use Rattle.dist_sweep.specs.Sweeping.{setting_of}
use Rattle.dist_sweep.specs.Futures.{FitsSpace}
use Rattle.dist_covering.specs.Covering.{CoveringView}
use Rattle.dist_challenge.specs.ChallengedPrivate.{KeepsChallenged}
use Rattle.dist_challenge.proofs.Starts.{challenged-starts}
use Rattle.dist_challenge.proofs.LaterKinds.{challenged-is-later}
use Rattle.dist_challenge.proofs.sweep.challenged.Goals as goal

pub write_sweep-claims-requires-clause-fits : goal.write_sweep-claims-requires-clause-fits
write_sweep-claims-requires-clause-fits g c = λ p from upto.
    let inputs = c.in_ok-inputs.inputs in
    let are = c.in_ok-inputs.ensures.ok Challenged challenged-is-later in
    let count = c.package_count.ensures in
    subst (λ (view : CoveringView). FitsSpace view.space inputs.clauses.variables p) (sym c.in_ok-claimant.ensures)
    (record { variables_are = are.variables; upto = omega (arith, upto, count) })

pub returns-clause-answers : goal.returns-clause-answers
returns-clause-answers g c =
    let inputs = c.in_ok-inputs.inputs in
    let space = inputs.space in
    let basis = Later space inputs.clauses.clauses in
    let setting = setting_of c.args.repo.now Challenged c.args.essential c.args.limit c.args.limits.now basis in
    c.write_sweep-claims.ensures c.args.repo.now basis c.keeps_invariant.ensures.in_order
    (c.in_ok-inputs.ensures.ok Challenged challenged-is-later) c.package_count.ensures
    (subst (λ (view : CoveringView). KeepsChallenged setting [] view) (sym c.in_ok-claimant.ensures)
    (challenged-starts setting space (record { kind_is = refl; inputs = inputs.clauses.clauses; later = refl })))
