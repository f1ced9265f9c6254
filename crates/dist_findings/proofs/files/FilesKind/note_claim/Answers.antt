use Rattle.dist_findings.proofs.AnswerNotes.{notes-claim}
use Rattle.dist_findings.proofs.files.FilesKind.note_claim.Goals as goal

pub returns : goal.returns
returns g c =
    let answering = c.args.self.now.answering.now in
    notes-claim (g.A.Answering.file answering) (g.A.Answering.noted answering) c.args._step c.args._notes.now c.requires.own
