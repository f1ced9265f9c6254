use Rattle.std.proofs.Common.{take, []}
use Rattle.std.specs.Prelude.{Any}
use Rattle.dist_classes.specs.Table.{Adds}
use Rattle.dist_classes.proofs.FreshLemmas.{HasFresh}
use Rattle.dist_classes.proofs.fresh_names.names_by.Given as goal

abbrev pub invariant-loop-number : goal.invariant-loop-number
invariant-loop-number l = Adds [] l.names.keys (λ q. Any (HasFresh l.repo q) (take l.number l.repo.packages))
