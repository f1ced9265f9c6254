use Rattle.std.proofs.Common.{take}
use Rattle.std.specs.Prelude.{Any}
use Rattle.dist_classes.specs.Table.{IsAtomBound, Notes}
use Rattle.dist_classes.proofs.bound_table.Table.note_items.Given as goal

abbrev pub invariant-loop-place : goal.invariant-loop-place
invariant-loop-place l = Notes l.fn.self l.self (λ q v. Any (λ item. Any (IsAtomBound l.repo.architecture q v) item) (take l.place l.items))
