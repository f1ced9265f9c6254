use Rattle.std.proofs.Common.{◌≡◌, [], ◌++◌, codes, get_or, length, take}
use Rattle.std.specs.Prelude.{◌==◌}
use Rattle.std.specs.List.{flat_map}
use Rattle.dist_report.specs.Lines.{key_line}
use Rattle.dist_report.specs.StrongReport.{entry_lines}
use Rattle.dist_report.proofs.strong_report.write_turned.Given as goal

abbrev pub invariant-loop-number : goal.invariant-loop-number
invariant-loop-number l = l.out.items ≡ (l.fn.out.items ++ key_line (codes "impact:") (length l.numbers == 0))
    ++ flat_map (λ q. entry_lines l.labels.packages (codes "    of:") q (get_or l.lists q [])) (take l.number-index l.numbers)
