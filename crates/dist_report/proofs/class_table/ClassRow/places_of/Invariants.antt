use Rattle.std.proofs.Common.{take}
use Rattle.dist_report.proofs.PlaceLemmas.{ArePlaces}
use Rattle.dist_report.proofs.class_table.ClassRow.places_of.Given as goal

abbrev pub invariant-loop-pair : goal.invariant-loop-pair
invariant-loop-pair l = ArePlaces l.self (take l.pair-index l.pairs) l.places.items
