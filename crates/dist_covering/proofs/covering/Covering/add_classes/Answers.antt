use Rattle.std.proofs.Common.{◌≡◌, ◌∙◌, ◌+◌, ◌-◌, ◌<◌, ℕ, ap, arith, length, subst, sym}
use Rattle.dist_clause.specs.Formula.{value_of}
use Rattle.dist_space.specs.Space.{SpaceView, cluster_classes, variable_of}
use Rattle.dist_space.specs.declared.meaning.Meaning.TheVariants.{At}
use Rattle.dist_sweep.specs.Window.{WindowView, kept_at}
use Rattle.dist_covering.specs.Covering.{CoveringView}
use Rattle.dist_covering.specs.OpenPairs.{IsGathering}
use Rattle.dist_covering.proofs.CoverSteps.{class-passed, class-pushed}
use Rattle.dist_covering.proofs.covering.Covering.add_classes.Goals as goal
use Rattle.dist_covering.proofs.covering.Covering.add_classes.Goals.{then-not-has+in_ok-push, else-not-has}

pub loop-back-preserved : goal.loop-back-preserved
loop-back-preserved c =
    let self : CoveringView = c.args.self.now in
    let kept : WindowView = c.args.window.now in
    let same = ap (λ (v : CoveringView). v.space) c.self.view_is in
    let x : ℕ = c.class_count-classes.result - 1 - c.loop-back.back in
    let from : ℕ = c.class_count-classes.result - c.loop-back.back in
    let classes : c.class_count-classes.result ≡ length (cluster_classes self.space c.args.cluster) =
    c.class_count-classes.ensures ∙ ap (λ (s : SpaceView). length (cluster_classes s c.args.cluster)) same in
    let short : c.loop-back.back < c.class_count-classes.result = c.loop-back-test.true in
    let next : x + 1 ≡ from = omega (arith, short) in
    let within : x < length (cluster_classes self.space c.args.cluster) = omega (arith, short, classes) in
    let target : x ≡ c.class_count-classes.result - (c.loop-back.back + 1) = omega (arith, short) in
    let is : c.variable-at.result ≡ variable_of self.space (At c.args.cluster x) =
    c.variable-at.ensures.value ∙ ap (λ (s : SpaceView). variable_of s (At c.args.cluster x)) same in
    λ own other gathered above.
    subst (λ (n : ℕ). IsGathering self kept own c.args.number c.args.cluster n c.args.ats.now.items c.if-not-has.ats.items) target
    (elim c.if-not-has.branch [
      | then-not-has+in_ok-push w ↦
          rw (w.ats-is, w.in_ok-push.ensures.items)
          (class-pushed self kept own c.args.number c.args.cluster x from c.variable-at.result c.args.ats.now.items c.loop-back.ats.items
          c.keeps_invariant.ensures.space next within other c.requires.used is (sym c.has.ensures ∙ w.if-not-has.true)
          (c.loop-back.invariant own other gathered above))
      | else-not-has w ↦
          rw w.ats-is
          (class-passed self kept own c.args.number c.args.cluster x from c.args.ats.now.items c.loop-back.ats.items next
          (ap (value_of (kept_at kept c.args.number)) (sym is) ∙ sym c.has.ensures ∙ w.if-not-has.false)
          (c.loop-back.invariant own other gathered above))
    ])

pub returns : goal.returns
returns c =
    let none : c.class_count-classes.result - c.loop-back.back ≡ 0 = omega (arith, c.loop-back-test.false) in
    λ own other gathered above.
    subst (λ (n : ℕ). IsGathering c.args.self.now c.args.window.now own c.args.number c.args.cluster n c.args.ats.now.items c.loop-back.ats.items) none
    (c.loop-back.invariant own other gathered above)
