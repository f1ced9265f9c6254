use Rattle.std.proofs.Common.{◌≡◌, ◌∙◌, ◌+◌, ◌-◌, ◌<◌, ◌≤◌, ℕ, List, ap, arith, filter, length, not, subst, sym}
use Rattle.std.specs.List.{All}
use Rattle.std.proofs.lemmas.List.Elements.{All-filter}
use Rattle.dist_cert.specs.declared.TheConstants.{REACH}
use Rattle.dist_sweep.specs.Window.{WindowView}
use Rattle.dist_covering.specs.Covering.{CoveringView}
use Rattle.dist_covering.specs.OpenPairs.{IsPlan, covered_by}
use Rattle.dist_covering.proofs.CoverSteps.{plan-struck}
use Rattle.dist_covering.proofs.covering.Covering.strike_by.Goals as goal

pub returns-then-lasts-clause-plan : goal.returns-then-lasts-clause-plan
returns-then-lasts-clause-plan c =
    let self : CoveringView = c.args.self.now in
    let kept : WindowView = c.args.window.now in
    let is : c.in_ok-left.left.items ≡ filter (λ at. not (covered_by self kept c.args.number at)) c.args.ats.now.items =
    c.in_ok-left.ensures ∙ ap (λ (xs : List ℕ). filter (λ at. not (covered_by self kept c.args.number at)) xs) c.deref.ensures.value in
    let long = c.len-then-len.ensures in
    let lasts : kept.count + c.len-then-len.result < c.args.number + REACH = c.lasts.ensures c.if-lasts.true in
    let fewer : length c.in_ok-left.left.items < length c.args.ats.now.items =
    omega (arith, c.if-len.true, c.len.ensures, c.len-2.ensures, c.in_ok-left.left.ok.0, c.args.ats.now.ok.0) in
    let low = c.requires.kept.low in
    let few = c.keeps_invariant.ensures.within in
    λ present own today start has other plan.
    subst (λ (ns : List ℕ). IsPlan self kept present own today start (c.args.number - 1) ns c.in_ok-left.left.items) (sym c.in_ok-push.ensures.items)
    (plan-struck self kept present own today start c.args.number c.args.named.now.items c.args.ats.now.items c.in_ok-left.left.items c.requires.kept
    (omega (arith, low, few)) has other (omega (arith, lasts, long, c.in_ok-left.left.ok.0)) fewer is plan)

pub returns-then-lasts-clause-inside : goal.returns-then-lasts-clause-inside
returns-then-lasts-clause-inside c =
    let self : CoveringView = c.args.self.now in
    let kept : WindowView = c.args.window.now in
    let is : c.in_ok-left.left.items ≡ filter (λ at. not (covered_by self kept c.args.number at)) c.args.ats.now.items =
    c.in_ok-left.ensures ∙ ap (λ (xs : List ℕ). filter (λ at. not (covered_by self kept c.args.number at)) xs) c.deref.ensures.value in
    subst (λ (xs : List ℕ). All (λ at. (1 ≤ at) × (at ≤ length self.space.meanings)) xs) (sym is)
    (All-filter (λ at. not (covered_by self kept c.args.number at)) (λ at. (1 ≤ at) × (at ≤ length self.space.meanings)) c.args.ats.now.items
    c.requires.inside)
