use Rattle.std.specs.Prelude.{◌≡◌}
use Rattle.dist_explain.specs.SelectedPrivate.{IsFront}
use Rattle.dist_explain.proofs.selected.push_all_selected.Given as goal

abbrev pub invariant-loop-place : goal.invariant-loop-place
invariant-loop-place l = IsFront l.clauses l.place l.set × (l.set.literal_limit ≡ l.initial.set.literal_limit)
