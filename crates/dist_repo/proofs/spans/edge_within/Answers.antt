use Rattle.std.proofs.Common.{◌<◌, ℕ, length, arith, ap, refl, sym, ◌∙◌}
use Rattle.std.proofs.lemmas.Option.{slice_get_read}
use Rattle.dist_repo.specs.SpansPrivate.{comes_before}
use Rattle.dist_repo.specs.declared.package.Package.{Package}
use Rattle.dist_repo.proofs.SpanLemmas.{edge-down, edge-met, edge-up}
use Rattle.dist_repo.proofs.spans.edge_within.Goals as goal

pub loop-low-preserved-then-comes_before : goal.loop-low-preserved-then-comes_before
loop-low-preserved-then-comes_before c =
    let low : ℕ = c.loop-low.low in
    let high : ℕ = c.loop-low.high in
    let middle : ℕ = c.next_look-middle.result in
    let from = c.next_look-middle.ensures.from in
    let to = c.next_look-middle.ensures.to in
    let within = c.loop-low.invariant.within in
    let short : middle < length c.args.packages.now = omega (arith, to, within) in
    let p : Package = c.index-packages-middle.result in
    let is = slice_get_read c.args.packages.now _ middle p refl short c.index-packages-middle.is in
    edge-up c.args.packages.now c.args.name.now c.args.past low high middle p c.requires.in_order c.loop-low.invariant from
    to is (ap (comes_before c.args.past) (sym c.compare_name.ensures) ∙ sym c.if-comes_before.ensures)

pub loop-low-preserved : goal.loop-low-preserved
loop-low-preserved c =
    let low : ℕ = c.loop-low.low in
    let high : ℕ = c.loop-low.high in
    let middle : ℕ = c.next_look-middle.result in
    let from = c.next_look-middle.ensures.from in
    let to = c.next_look-middle.ensures.to in
    let within = c.loop-low.invariant.within in
    let short : middle < length c.args.packages.now = omega (arith, to, within) in
    let p : Package = c.index-packages-middle.result in
    let is = slice_get_read c.args.packages.now _ middle p refl short c.index-packages-middle.is in
    edge-down c.args.packages.now c.args.name.now c.args.past low high middle p c.requires.in_order c.loop-low.invariant from
    to is (ap (comes_before c.args.past) (sym c.compare_name.ensures) ∙ sym c.if-comes_before.ensures)

pub returns : goal.returns
returns c = edge-met c.args.packages.now c.args.name.now c.args.past c.loop-low.low c.loop-low.high c.loop-low-test.false c.loop-low.invariant
