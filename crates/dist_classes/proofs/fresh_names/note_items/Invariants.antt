use Rattle.std.proofs.Common.{take}
use Rattle.std.specs.Prelude.{Any}
use Rattle.dist_classes.specs.NewNames.{IsFreshAtom}
use Rattle.dist_classes.specs.Table.{Adds}
use Rattle.dist_classes.proofs.fresh_names.note_items.Given as goal

abbrev pub invariant-loop-place : goal.invariant-loop-place
invariant-loop-place l = Adds l.fn.names.keys l.names.keys (λ q. Any (λ item. Any (IsFreshAtom l.repo q) item) (take l.place l.items))
