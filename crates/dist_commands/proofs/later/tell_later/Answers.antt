use Rattle.std.proofs.Common.{inl, refl}
use Rattle.dist_commands.proofs.LaterLemmas.{is-other, is-same, misfit-told, ok-both, other-some}
use Rattle.dist_commands.proofs.later.tell_later.Goals as goal

pub package-requires : goal.package-requires
package-requires c =
    c.requires.some (other-some c.args.space.now.repository c.args.later.now (is-other c.args.space.now c.repo.result.now c.args.later.now
    c.repo.ensures.value c.has_other_architecture.result c.has_other_architecture.ensures c.if-has_other_architecture.true))

pub returns-then-has_other_architecture : goal.returns-then-has_other_architecture
returns-then-has_other_architecture c =
    let other = is-other c.args.space.now c.repo.result.now c.args.later.now c.repo.ensures.value c.has_other_architecture.result
    c.has_other_architecture.ensures c.if-has_other_architecture.true in
    ok-both c.tell_misfit.result _ _ _ (λ answer not told. misfit-told c.args.space.now c.args.later.now answer.status answer.text.items 0
    c.package.result.now (λ both. both.0 other) (inl (other, refl)) c.package.ensures not told) c.tell_misfit.ensures.status c.tell_misfit.ensures.text

pub tell_reached-requires-clause-same : goal.tell_reached-requires-clause-same
tell_reached-requires-clause-same c =
    is-same c.args.space.now c.repo.result.now c.args.later.now c.repo.ensures.value c.has_other_architecture.result
    c.has_other_architecture.ensures c.if-has_other_architecture.false
