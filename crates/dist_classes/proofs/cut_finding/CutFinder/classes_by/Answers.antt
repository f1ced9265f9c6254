use Rattle.std.proofs.Common.{◌≡◌, ◌∙◌, List, ℕ, ap, subst}
use Rattle.std.proofs.lemmas.Result.{IfOk-weaker}
use Rattle.dist_classes.specs.Answers.{AreClassesOf}
use Rattle.dist_classes.specs.ClassList.{classes_above}
use Rattle.dist_classes.specs.Cuts.{IsClusterCut}
use Rattle.dist_classes.specs.SortedPrivate.{cuts_after}
use Rattle.dist_classes.specs.Table.{AddsLeast}
use Rattle.dist_classes.proofs.FoundCuts.{cluster-classes}
use Rattle.dist_classes.proofs.cut_finding.CutFinder.classes_by.Goals as goal

pub returns : goal.returns
returns c =
    let r = c.args.self.now in
    let top = c.args.top.now in
    let found = c.collect_members.new.found.items in
    let sorted = c.sort.new.self.items in
    let From : List (List ℕ) → Type 0 = λ old. AddsLeast old found (IsClusterCut r c.args.members.now top) in
    let adds = subst From c.requires.none c.in_ok-collect_members.ensures in
    IfOk-weaker c.classes_above.result (λ classes. classes ≡ classes_above top (cuts_after top c.deref.result.now)) (AreClassesOf r c.args.members.now top)
    (λ classes is. cluster-classes r c.args.members.now top found sorted classes adds c.in_ok-sort.ensures.permutation c.in_ok-sort.ensures.sorted
    (is ∙ ap (λ (texts : List (List ℕ)). classes_above top (cuts_after top texts)) c.deref.ensures.value)) c.classes_above.ensures
