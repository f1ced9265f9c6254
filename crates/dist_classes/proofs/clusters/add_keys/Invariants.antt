use Rattle.std.proofs.Common.{◌≡◌, map, take}
use Rattle.dist_classes.specs.Answers.{member_of}
use Rattle.dist_classes.proofs.clusters.add_keys.Given as goal

abbrev pub invariant-loop-number : goal.invariant-loop-number
invariant-loop-number l = l.keys ≡ map member_of (take l.number l.repo.packages)
