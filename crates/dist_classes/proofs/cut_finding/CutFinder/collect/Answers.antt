use Rattle.std.proofs.Common.{◌≡◌, subst}
use Rattle.std.specs.Prelude.{OnOk}
use Rattle.std.proofs.lemmas.Result.{on_ok_weaker}
use Rattle.dist_repo.specs.PackageList.{PackageList}
use Rattle.dist_classes.specs.Atoms.{IsBoundOn}
use Rattle.dist_classes.specs.Table.{AddsLeast}
use Rattle.dist_classes.proofs.FoundCuts.{table-all}
use Rattle.dist_classes.proofs.cut_finding.CutFinder.collect.Goals as goal

pub collect-requires : goal.collect-requires
collect-requires c = c.self.invariant.sorted

pub returns : goal.returns
returns c =
    let v = c.self.inside in
    let old = c.args.found.now.items in
    let new = c.collect.new.found.items in
    let Of : PackageList → Type 0 = λ r. OnOk c.collect.result (AddsLeast old new (IsBoundOn r (λ other. other ≡ c.args.name.now))) in
    subst Of c.self.view_is (on_ok_weaker c.collect.result (table-all v.repo.now v.table c.args.name.now old new c.self.invariant.exact) c.collect.ensures)
