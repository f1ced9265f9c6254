use Rattle.dist_classes.proofs.FoundCuts.{AreCollected}
use Rattle.dist_classes.proofs.cut_finding.CutFinder.collect_names.Given as goal

-- the versions on the names so far are found
abbrev pub invariant-loop-key : goal.invariant-loop-key
invariant-loop-key l = AreCollected l.self l.top l.names.keys l.key-iterator l.fn.found.items l.found.items
