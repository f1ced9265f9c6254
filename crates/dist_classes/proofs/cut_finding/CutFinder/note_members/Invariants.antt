use Rattle.std.proofs.Common.{take, []}
use Rattle.std.specs.Prelude.{Any}
use Rattle.dist_classes.specs.Table.{Adds}
use Rattle.dist_classes.proofs.FoundCuts.{IsNameOf}
use Rattle.dist_classes.proofs.cut_finding.CutFinder.note_members.Given as goal

-- the names of the members so far are there
abbrev pub invariant-loop-number : goal.invariant-loop-number
invariant-loop-number l = Adds [] l.names.keys (λ n. Any (IsNameOf l.self n) (take l.number-index l.members))
