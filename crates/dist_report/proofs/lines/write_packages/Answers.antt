use Rattle.std.proofs.Common.{Bool, ◌++◌, append_assoc, append-nil, length, arith, sym, ap, ◌∙◌}
use Rattle.std.specs.Prelude.{◌==◌}
use Rattle.std.specs.List.{flat_map}
use Rattle.dist_report.specs.Lines.{key_line}
use Rattle.dist_report.specs.PackageText.{package_line}
use Rattle.dist_report.proofs.LineLemmas.{lines-all}
use Rattle.dist_report.proofs.lines.write_packages.Goals as goal

pub loop-number-init : goal.loop-number-init
loop-number-init c =
    let old = c.args.out.now.items in
    c.in_ok-write_key.ensures ∙ ap (λ (b : Bool). old ++ key_line c.args.key.now b) c.is_empty.ensures
    ∙ sym (append-nil (old ++ key_line c.args.key.now (length c.args.numbers.now == 0)))

pub returns : goal.returns
returns c =
    let numbers = c.args.numbers.now in
    let key = key_line c.args.key.now (length numbers == 0) in
    let line = package_line c.args.before.now c.args.labels.now.packages in
    lines-all line numbers c.loop-number.number-index (c.args.out.now.items ++ key) c.loop-number.out.items (omega arith) c.loop-number.invariant
    ∙ append_assoc c.args.out.now.items key (flat_map line numbers)
