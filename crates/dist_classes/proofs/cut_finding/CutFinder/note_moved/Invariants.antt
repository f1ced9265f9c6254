use Rattle.dist_classes.specs.Table.{Adds}
use Rattle.dist_classes.proofs.FoundCuts.{IsMovedBy}
use Rattle.dist_classes.proofs.cut_finding.CutFinder.note_moved.Given as goal

-- the name and those of the moving entries so far are there
abbrev pub invariant-loop-place : goal.invariant-loop-place
invariant-loop-place l = Adds l.fn.names.keys l.names.keys (IsMovedBy l.self.architecture l.package l.place)
