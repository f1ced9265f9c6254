use Rattle.std.proofs.Common.{length, ◌+◌, ◌*◌, ◌≤◌, ℕ, List}
use Rattle.dist_bench.proofs.LinesRead.{AreDone}
use Rattle.dist_bench.specs.Relations.{CountsLines, IsRead}
use Rattle.dist_bench.specs.declared.relations.Kind.TheVariants.{Depends, Conflicts, Provides}
use Rattle.dist_bench.proofs.relations.counts_of.Given as goal

-- what the lines that were read hold; each adds less than 2 ^ 64
abbrev pub invariant-loop-rest : goal.invariant-loop-rest
invariant-loop-rest l = record {
  done : List (List ℕ);
  are : AreDone l.text l.rest IsRead done;
  dependencies : CountsLines Depends done l.dependencies;
  conflicts : CountsLines Conflicts done l.conflicts;
  provided : CountsLines Provides done l.provided;
  fits : (l.dependencies + length l.rest * 18446744073709551616 ≤ length l.text * 18446744073709551616)
      × (l.conflicts + length l.rest * 18446744073709551616 ≤ length l.text * 18446744073709551616)
      × (l.provided + length l.rest * 18446744073709551616 ≤ length l.text * 18446744073709551616);
}

abbrev pub decreases-loop-rest : goal.decreases-loop-rest
decreases-loop-rest l = length l.rest
