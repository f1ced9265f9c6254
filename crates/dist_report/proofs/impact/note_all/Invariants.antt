use Rattle.std.proofs.Common.{take}
use Rattle.dist_report.proofs.NotedLemmas.{AreNoted}
use Rattle.dist_report.proofs.impact.note_all.Given as goal

abbrev pub invariant-loop-q : goal.invariant-loop-q
invariant-loop-q l = AreNoted l.number (take l.q-index l.on) l.fn.lists.items l.lists.items
