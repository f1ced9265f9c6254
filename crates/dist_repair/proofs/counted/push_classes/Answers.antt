use Rattle.std.proofs.Common.{◌+◌, suc, ℕ, ◌∷◌, [], subst, ◌≡◌, arith}
use Rattle.std.proofs.lemmas.Result.{err_from_is_err_and}
use Rattle.dist_space.specs.Space.{variable_of}
use Rattle.dist_space.specs.declared.meaning.Meaning.TheVariants.{At}
use Rattle.dist_repair.specs.CountedPrivate.{HasMore}
use Rattle.dist_repair.specs.Counters.{each_below, moved, no, yes}
use Rattle.dist_repair.proofs.StopLemmas.{more-below, none-below, stops-below}
use Rattle.dist_repair.proofs.counted.push_classes.Goals as goal

pub loop-class-init : goal.loop-class-init
loop-class-init c = none-below c.args.set.now
    (λ k. (no (variable_of c.args.space.now (At c.args.cluster k)) ∷ yes (moved c.args.counter.now c.args.cluster) ∷ []) ∷ [])

pub returns-in_err-push_class-clause-err : goal.returns-in_err-push_class-clause-err
returns-in_err-push_class-clause-err c =
    let p = err_from_is_err_and c.from_residual.result c.from_residual.ensures.1 in
    let e = c.class_count-class-end.ensures in
    rw (p.1, p.2) (stops-below c.args.set.now c.loop-class.set c.loop-class.class _
    (λ k. (no (variable_of c.args.space.now (At c.args.cluster k)) ∷ yes (moved c.args.counter.now c.args.cluster) ∷ []) ∷ [])
    c.in_err-push_class.field-0.0 (omega (arith, e, c.loop-class-test.true)) c.loop-class.invariant c.in_err-push_class.ensures.err)

pub loop-class-preserved : goal.loop-class-preserved
loop-class-preserved c =
    let next : suc c.loop-class.class ≡ c.loop-class.class + 1 = omega arith in
    subst (λ (n : ℕ). HasMore c.args.set.now c.push_class.new.set
    (each_below n (λ k. (no (variable_of c.args.space.now (At c.args.cluster k)) ∷ yes (moved c.args.counter.now c.args.cluster) ∷ []) ∷ []))) next
    (more-below c.args.set.now c.loop-class.set c.push_class.new.set c.loop-class.class
    (λ k. (no (variable_of c.args.space.now (At c.args.cluster k)) ∷ yes (moved c.args.counter.now c.args.cluster) ∷ []) ∷ [])
    c.loop-class.invariant c.in_ok-push_class.ensures.ok)
