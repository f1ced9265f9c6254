use Rattle.std.proofs.Common.{◌≡◌, ◌++◌, take}
use Rattle.dist_history.specs.PlanText.{names_text}
use Rattle.dist_history.proofs.step_lines.write_names.Given as goal

abbrev pub invariant-loop-number : goal.invariant-loop-number
invariant-loop-number l = l.out.items ≡ l.fn.out.items ++ names_text (take l.number l.block.packages)
