use Rattle.std.proofs.lemmas.Result.{on_ok_weaker}
use Rattle.dist_classes.proofs.TableLemmas.{noted-atom}
use Rattle.dist_classes.proofs.bound_table.Table.note_atom.Goals as goal

pub returns : goal.returns
returns c =
    on_ok_weaker c.note.result (noted-atom c.args.repo.now.architecture c.args.self.now c.note.new.self c.args.atom.now c.in-Some.bound c.in-Some.is
    (c.usable.ensures.0 c.if-not-usable.false)) c.note.ensures
