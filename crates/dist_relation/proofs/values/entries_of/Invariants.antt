use Rattle.std.proofs.Common.{◌≡◌, suc, length}
use Rattle.dist_base.specs.Ascii.{comma}
use Rattle.dist_relation.specs.ReadingPrivate.{joined_at, piece_at, items_of}
use Rattle.dist_relation.proofs.Loops.{with_entries}
use Rattle.dist_relation.proofs.values.entries_of.Given as goal

-- the entries so far and those of what is left are those of the value
abbrev pub invariant-loop-entries : goal.invariant-loop-entries
invariant-loop-entries g l =
    let reading = g.T.Entry.reading in
    with_entries l.entries.items (joined_at comma (piece_at reading) (suc (length l.text)) l.text) ≡ items_of reading l.value

abbrev pub decreases-loop-entries : goal.decreases-loop-entries
decreases-loop-entries g l = length l.text
