use Rattle.std.proofs.Common.{◌≡◌, ◌++◌}
use Rattle.dist_classes.proofs.fresh_names.push_copies.Given as goal

abbrev pub invariant-loop-key : goal.invariant-loop-key
invariant-loop-key l = l.copies.items ++ l.key-iterator ≡ l.names.keys
