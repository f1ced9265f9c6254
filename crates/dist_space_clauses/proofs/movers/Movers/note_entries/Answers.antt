use Rattle.std.proofs.Common.{arith}
use Rattle.dist_space_clauses.proofs.MovingLemmas.{notes-end, notes-more, notes-start}
use Rattle.dist_space_clauses.proofs.movers.Movers.note_entries.Goals as goal

pub loop-place-init : goal.loop-place-init
loop-place-init c = notes-start c.args.self.now c.args.package.now c.args.number

pub loop-place-preserved : goal.loop-place-preserved
loop-place-preserved c =
    notes-more c.args.self.now c.loop-place.self c.note_entry.new.self c.args.package.now c.loop-place.place c.args.number c.get.result.now
    c.get.ensures c.loop-place.invariant c.in_ok-note_entry.ensures

pub returns : goal.returns
returns c = notes-end c.args.self.now c.loop-place.self c.args.package.now c.loop-place.place c.args.number (omega arith) c.loop-place.invariant
