use Rattle.dist_findings.proofs.AnswerNotes.{installed-noted}
use Rattle.dist_findings.proofs.files.FilesKind.note_installed.Goals as goal

pub returns : goal.returns
returns g c =
    let answering = c.args.self.now.answering.now in
    installed-noted (g.A.Answering.file answering) (g.A.Answering.noted answering) c.note.result c.args.variables c.args.notes.now c.note.new.notes
    c.note.ensures
