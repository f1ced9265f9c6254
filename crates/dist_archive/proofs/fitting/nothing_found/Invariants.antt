use Rattle.std.proofs.Common.{◌≡◌, replicate}
use Rattle.dist_archive.specs.declared.fitting.Found.TheVariants as found
use Rattle.dist_archive.proofs.fitting.nothing_found.Given as goal

abbrev pub invariant-loop-cluster : goal.invariant-loop-cluster
invariant-loop-cluster l = l.founds.items ≡ replicate l._cluster found.Nothing
