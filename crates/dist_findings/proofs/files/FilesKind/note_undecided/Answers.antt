use Rattle.dist_findings.proofs.AnswerNotes.{undecided-noted}
use Rattle.dist_findings.proofs.files.FilesKind.note_undecided.Goals as goal

pub returns : goal.returns
returns g c =
    let answering = c.args.self.now.answering.now in
    undecided-noted (g.A.Answering.file answering) (g.A.Answering.noted answering) c.note.result c.args.question c.args.notes.now c.note.new.notes
    c.note.ensures
