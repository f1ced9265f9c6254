use Rattle.std.proofs.Common.{◌≡◌, ◌∙◌, List, ℕ, ap, subst}
use Rattle.std.proofs.lemmas.Result.{IfOk-weaker}
use Rattle.dist_classes.specs.Answers.{AreClassesOfName}
use Rattle.dist_classes.specs.Atoms.{IsBoundOn}
use Rattle.dist_classes.specs.ClassList.{classes_of_all}
use Rattle.dist_classes.specs.SortedPrivate.{cuts_of}
use Rattle.dist_classes.specs.Table.{AddsLeast}
use Rattle.dist_classes.proofs.FoundCuts.{name-classes}
use Rattle.dist_classes.proofs.cut_finding.CutFinder.classes_by_name.Goals as goal

pub returns : goal.returns
returns c =
    let r = c.args.self.now in
    let name = c.args.name.now in
    let found = c.collect.new.found.items in
    let sorted = c.sort.new.self.items in
    let Of : List ℕ → Type 0 = λ own. AddsLeast c.args.found.now.items found (IsBoundOn r (λ other. other ≡ own)) in
    let From : List (List ℕ) → Type 0 = λ old. AddsLeast old found (IsBoundOn r (λ other. other ≡ name)) in
    let adds = subst From c.requires (subst Of c.new.ensures c.in_ok-collect.ensures) in
    IfOk-weaker c.classes_of_all.result (λ classes. classes ≡ classes_of_all (cuts_of c.deref.result.now)) (AreClassesOfName r name)
    (λ classes is. name-classes r name found sorted classes adds c.in_ok-sort.ensures.permutation c.in_ok-sort.ensures.sorted
    (is ∙ ap (λ (texts : List (List ℕ)). classes_of_all (cuts_of texts)) c.deref.ensures.value)) c.classes_of_all.ensures
