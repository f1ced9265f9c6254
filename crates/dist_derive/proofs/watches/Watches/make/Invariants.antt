use Rattle.std.proofs.Common.{◌≡◌, ℕ, []}
use Rattle.std.specs.List.{slice_index_or}
use Rattle.dist_derive.proofs.watches.Watches.make.Given as goal

abbrev pub invariant-loop-code : goal.invariant-loop-code
invariant-loop-code l = (k : ℕ) → slice_index_or l.lists.items k [] ≡ []
