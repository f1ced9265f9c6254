use Rattle.dist_findings.proofs.AnswerNotes.{refuted-noted}
use Rattle.dist_findings.proofs.files.FilesKind.note_refuted.Goals as goal

pub returns : goal.returns
returns g c =
    let answering = c.args.self.now.answering.now in
    refuted-noted (g.A.Answering.file answering) (g.A.Answering.noted answering) c.note.result c.args.question c.args.notes.now c.note.new.notes c.note.ensures
