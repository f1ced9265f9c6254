use Rattle.std.proofs.Common.{◌+◌, ◌≤◌, length}
use Rattle.dist_list.specs.ListedPrivate.{ReadSoFar}
use Rattle.dist_list.proofs.list.read_list.Given as goal

-- the lines that were read name these packages
abbrev pub invariant-loop-rest : goal.invariant-loop-rest
invariant-loop-rest l = record {
  read : ReadSoFar l.repository.packages l.bytes l.rest l.number l.members;
  counted : l.number + length l.rest ≤ length l.bytes + 1;
}

abbrev pub decreases-loop-rest : goal.decreases-loop-rest
decreases-loop-rest l = length l.rest
