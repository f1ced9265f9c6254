use Rattle.std.proofs.Common.{◌≡◌, ◌∙◌, ◌+◌, ◌-◌, ◌<◌, ◌≤◌, ℕ, [], ◌∷◌, List, ap, arith, length, subst, sym}
use Rattle.std.specs.Prelude.{slice_index}
use Rattle.dist_cert.specs.Rising.{AreRising}
use Rattle.dist_sweep.specs.Window.{WindowView}
use Rattle.dist_covering.specs.Covering.{CoveringView}
use Rattle.dist_covering.specs.OpenPairs.{AreClustersFrom, AreGathered, AreOpen, used_by}
use Rattle.dist_covering.proofs.CoverSteps.{cluster-gathered, clusters-above, gathered-open, own-passed}
use Rattle.dist_covering.proofs.covering.Covering.open_among.Goals as goal
use Rattle.dist_covering.proofs.covering.Covering.open_among.Goals.{then-cluster-own+in_ok-add_classes, else-cluster-own}

pub loop-back-preserved : goal.loop-back-preserved
loop-back-preserved c =
    let self : CoveringView = c.args.self.now in
    let kept : WindowView = c.args.window.now in
    let used : List ℕ = c.used_by-used.result.now in
    let own : ℕ = c.cluster_of-own.result in
    let x : ℕ = c.args.clusters - 1 - c.loop-back.back in
    let place : ℕ = c.args.clusters - c.loop-back.back in
    let short : c.loop-back.back < c.args.clusters = c.loop-back-test.true in
    let next : x + 1 ≡ place = omega (arith, short) in
    let target : x ≡ c.args.clusters - (c.loop-back.back + 1) = omega (arith, short) in
    let same : used ≡ used_by self kept c.args.number = c.used_by-used.ensures.value in
    let within : x < length (used_by self kept c.args.number) = omega (arith, short, c.requires.clusters) in
    let low : 1 ≤ slice_index used x = c.used_by-used.ensures.from_one x 0 (omega (arith, within, ap length same)) in
    let cluster : ℕ = slice_index used x - 1 in
    let is : slice_index (used_by self kept c.args.number) x ≡ cluster + 1 =
    ap (λ (ns : List ℕ). slice_index ns x) (sym same) ∙ (let e : slice_index used x ≡ cluster + 1 = omega (arith, low) in e) in
    subst (λ (n : ℕ). AreClustersFrom self kept own c.args.number c.args.clusters n c.if-cluster-own.ats.items) target
    (elim c.if-cluster-own.branch [
      | then-cluster-own+in_ok-add_classes w ↦
          rw w.ats-is
          (cluster-gathered self kept own c.args.number c.args.clusters x place cluster c.loop-back.ats.items w.add_classes.new.ats.items next
          (subst AreRising same c.used_by-used.ensures.rising) within is c.loop-back.invariant
          (w.in_ok-add_classes.ensures own w.if-cluster-own.true c.loop-back.invariant.gathered
          (clusters-above self kept own c.args.number c.args.clusters x place cluster c.loop-back.ats.items next is c.loop-back.invariant)))
      | else-cluster-own w ↦
          rw w.ats-is
          (own-passed self kept own c.args.number c.args.clusters x place c.loop-back.ats.items next
          (ap (λ (ns : List ℕ). slice_index ns x - 1) (sym same) ∙ w.if-cluster-own.false) c.loop-back.invariant)
    ])

pub returns-clause-some : goal.returns-clause-some
returns-clause-some c =
    let self : CoveringView = c.args.self.now in
    let own : c.cluster_of-own.result ≡ slice_index self.space.cluster_of (c.args.package - 1) =
    c.cluster_of-own.ensures ∙ ap (λ (v : CoveringView). slice_index v.space.cluster_of (c.args.package - 1)) c.self.view_is in
    subst (λ (n : ℕ). AreGathered self c.args.window.now n c.args.number c.loop-back.ats.items) own c.loop-back.invariant.gathered

pub returns-clause-all : goal.returns-clause-all
returns-clause-all c =
    let self : CoveringView = c.args.self.now in
    let none : c.args.clusters - c.loop-back.back ≡ 0 = omega (arith, c.loop-back-test.false) in
    let own : c.cluster_of-own.result ≡ slice_index self.space.cluster_of (c.args.package - 1) =
    c.cluster_of-own.ensures ∙ ap (λ (v : CoveringView). slice_index v.space.cluster_of (c.args.package - 1)) c.self.view_is in
    λ whole. subst (λ (n : ℕ). AreOpen self c.args.window.now n (c.args.number ∷ []) c.loop-back.ats.items) own
    (gathered-open self c.args.window.now c.cluster_of-own.result c.args.number c.args.clusters (c.args.clusters - c.loop-back.back)
    c.loop-back.ats.items c.keeps_invariant.ensures.space none whole c.loop-back.invariant)
