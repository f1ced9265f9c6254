use Rattle.std.proofs.Common.{◌≡◌, ◌∙◌, subst}
use Rattle.std.specs.Prelude.{Contains, OnOk}
use Rattle.std.proofs.lemmas.Result.{on_ok_weaker}
use Rattle.dist_version.specs.Order.{IsBelow}
use Rattle.dist_classes.specs.Table.{AddsLeast, Entries}
use Rattle.dist_classes.proofs.BoundLemmas.{start-found, start-own}
use Rattle.dist_classes.proofs.bound_table.Table.collect_above.Goals as goal

pub collect_from-requires-clause-place : goal.collect_from-requires-clause-place
collect_from-requires-clause-place c =
    let t = c.as_slice-bounds.result.now in
    let name = c.args.name.now in
    start-own t name c.first_above.result (λ v. IsBelow c.args.version.now v × Contains t (name, v)) c.first_above.ensures

pub returns : goal.returns
returns c =
    let t : Entries = c.as_slice-bounds.result.now in
    let name = c.args.name.now in
    let old = c.args.found.now.items in
    let new = c.collect_from.new.found.items in
    let is : t ≡ c.args.self.now = c.as_slice-bounds.ensures.value ∙ c.self.view_is in
    let Of : Entries → Type 0 = λ t. OnOk c.collect_from.result (AddsLeast old new (λ v. IsBelow c.args.version.now v × Contains t (name, v))) in
    subst Of is (on_ok_weaker c.collect_from.result (start-found t name c.first_above.result (λ v. IsBelow c.args.version.now v × Contains t (name, v)) old new
    c.first_above.ensures) c.collect_from.ensures)
