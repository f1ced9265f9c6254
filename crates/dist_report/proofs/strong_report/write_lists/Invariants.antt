use Rattle.std.proofs.Common.{◌≡◌, ◌++◌, codes, length, take}
use Rattle.std.specs.Prelude.{◌==◌}
use Rattle.std.specs.List.{flat_map}
use Rattle.dist_report.specs.ClaimPartsPrivate.{list_at}
use Rattle.dist_report.specs.Lines.{key_line}
use Rattle.dist_report.specs.StrongReport.{entry_lines}
use Rattle.dist_report.proofs.strong_report.write_lists.Given as goal

abbrev pub invariant-loop-number : goal.invariant-loop-number
invariant-loop-number l = l.out.items ≡ (l.fn.out.items ++ key_line l.key (length l.numbers == 0))
    ++ flat_map (λ p. entry_lines l.labels.packages (codes "    on:") p (list_at l.kind l.claims p)) (take l.number-index l.numbers)
