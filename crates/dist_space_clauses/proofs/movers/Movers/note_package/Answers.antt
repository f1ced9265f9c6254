use Rattle.std.proofs.lemmas.Result.{on_ok_weaker}
use Rattle.dist_space_clauses.proofs.MovingLemmas.{package-noted}
use Rattle.dist_space_clauses.proofs.movers.Movers.note_package.Goals as goal

pub returns : goal.returns
returns c =
    on_ok_weaker c.note_entries.result
    (package-noted c.args.self.now c.note.new.self c.note_entries.new.self c.args.package.now c.args.number c.in_ok-note.ensures) c.note_entries.ensures
