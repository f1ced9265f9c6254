use Rattle.std.proofs.Common.{◌≡◌, ◌++◌, take}
use Rattle.dist_report.specs.ExplainedText.{marked_lines}
use Rattle.dist_report.proofs.explained_lines.write_all_marked.Given as goal

abbrev pub invariant-loop-place : goal.invariant-loop-place
invariant-loop-place l = l.out.items
    ≡ l.initial.out.items ++ marked_lines l.repo.packages l.needed l.undecided 1 (take l.place l.list)
