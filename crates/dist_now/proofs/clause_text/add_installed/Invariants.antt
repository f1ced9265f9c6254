use Rattle.std.specs.Prelude.{◌≡◌, ◌++◌, map, take}
use Rattle.dist_now.specs.PresentClauses.{installed}
use Rattle.dist_now.proofs.clause_text.add_installed.Given as goal

-- the literals of the numbers so far were added
abbrev pub invariant-loop-number : goal.invariant-loop-number
invariant-loop-number l = l.clause.items ≡ l.initial.clause.items ++ map installed (take l.number-index l.numbers)
