use Rattle.std.proofs.Common.{◌+◌, ◌<◌, true, ap, arith, length, refl, sym, ◌∙◌}
use Rattle.std.proofs.lemmas.Option.{slice_get_read}
use Rattle.dist_repo.specs.SpansPrivate.{comes_before}
use Rattle.dist_repo.proofs.SpanLemmas.{above-all, above-next}
use Rattle.dist_repo.proofs.spans.end_above.Goals as goal

pub returns-then-comes_before : goal.returns-then-comes_before
returns-then-comes_before c = above-all c.args.packages.now c.args.name.now c.args.start c.requires.start

pub returns : goal.returns
returns c =
    let p = c.index-packages-start.result in
    let short : c.args.start + 1 < length c.args.packages.now = let h = c.if-packages-start-lt2.false in omega (arith, h) in
    let is = slice_get_read c.args.packages.now _ (c.args.start + 1) p refl short c.index-packages-start.is in
    above-next c.args.packages.now c.args.name.now c.args.start c.requires.start p c.requires.in_order short is
    (ap (comes_before true) (sym c.compare_name.ensures) ∙ sym c.if-comes_before.ensures)
