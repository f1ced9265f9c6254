use Rattle.dist_outside.specs.Files.{IsNotWriting}
use Rattle.dist_file_tests.proofs.desks.all_come.Given as goal

abbrev pub invariant-loop-row : goal.invariant-loop-row
invariant-loop-row l = IsNotWriting l.desk.mode
