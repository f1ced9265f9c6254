use Rattle.std.proofs.Common.{◌≡◌, ◌∙◌, ◌-◌, ℕ, List, [], ◌∷◌, ap, filter, length, not, subst, sym}
use Rattle.std.specs.Prelude.{slice_index}
use Rattle.std.proofs.lemmas.Result.{IfOk-weaker}
use Rattle.dist_sweep.specs.Window.{WindowView}
use Rattle.dist_covering.specs.Covering.{CoveringView}
use Rattle.dist_covering.specs.OpenPairs.{AreOpen, covered_by}
use Rattle.dist_covering.proofs.CoverSteps.{open-struck}
use Rattle.dist_covering.proofs.covering.Covering.candidates.Goals as goal

pub returns : goal.returns
returns c =
    let self : CoveringView = c.args.self.now in
    let kept : WindowView = c.args.window.now in
    let own : ℕ = slice_index self.space.cluster_of (c.args.package - 1) in
    IfOk-weaker c.left_by.result (λ left. left.items ≡ filter (λ at. not (covered_by self kept c.args.today at)) c.deref.result.now)
    (λ ats. AreOpen self kept own (c.args.start ∷ c.args.today ∷ []) ats.items)
    (λ left is. subst (λ (xs : List ℕ). AreOpen self kept own (c.args.start ∷ c.args.today ∷ []) xs)
    (sym (is ∙ ap (λ (xs : List ℕ). filter (λ at. not (covered_by self kept c.args.today at)) xs) c.deref.ensures.value))
    (open-struck self kept own c.args.today (c.args.start ∷ []) c.in_ok-ats.ats.items (c.in_ok-ats.ensures.all (ap length c.used_by.ensures.value))))
    c.left_by.ensures
