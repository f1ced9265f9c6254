use Rattle.std.proofs.Common.{◌≡◌, ◌++◌, length, take}
use Rattle.std.specs.Prelude.{◌==◌}
use Rattle.std.specs.List.{flat_map}
use Rattle.dist_report.specs.Lines.{key_line}
use Rattle.dist_report.specs.PackageText.{package_line}
use Rattle.dist_report.proofs.lines.write_packages.Given as goal

abbrev pub invariant-loop-number : goal.invariant-loop-number
invariant-loop-number l = l.out.items ≡ (l.fn.out.items ++ key_line l.key (length l.numbers == 0))
    ++ flat_map (package_line l.before l.labels.packages) (take l.number-index l.numbers)
