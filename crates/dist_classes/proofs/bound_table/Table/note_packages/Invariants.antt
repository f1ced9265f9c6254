use Rattle.std.proofs.Common.{take, []}
use Rattle.std.specs.Prelude.{Any}
use Rattle.dist_classes.specs.Table.{IsPackageBound, Notes}
use Rattle.dist_classes.proofs.bound_table.Table.note_packages.Given as goal

abbrev pub invariant-loop-number : goal.invariant-loop-number
invariant-loop-number l = Notes [] l.self (λ q v. Any (IsPackageBound l.repo.architecture q v) (take l.number l.repo.packages))
