use Rattle.std.proofs.Common.{◌≡◌, subst}
use Rattle.std.specs.Prelude.{OnOk}
use Rattle.std.proofs.lemmas.Result.{on_ok_weaker}
use Rattle.dist_repo.specs.PackageList.{PackageList}
use Rattle.dist_classes.specs.Table.{AddsLeast}
use Rattle.dist_classes.proofs.FoundCuts.{IsOnAbove, table-above}
use Rattle.dist_classes.proofs.cut_finding.CutFinder.collect_above.Goals as goal

pub collect_above-requires : goal.collect_above-requires
collect_above-requires c = c.self.invariant.sorted

pub returns : goal.returns
returns c =
    let v = c.self.inside in
    let top = c.args.top.now in
    let old = c.args.found.now.items in
    let new = c.collect_above.new.found.items in
    let Of : PackageList → Type 0 = λ r. OnOk c.collect_above.result (AddsLeast old new (IsOnAbove r top (λ other. other ≡ c.args.name.now))) in
    subst Of c.self.view_is
    (on_ok_weaker c.collect_above.result (table-above v.repo.now v.table c.args.name.now top old new c.self.invariant.exact) c.collect_above.ensures)
