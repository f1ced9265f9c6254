use Rattle.dist_findings.proofs.AnswerNotes.{are-lines}
use Rattle.dist_findings.proofs.files.FilesKind.laws.Goals as goal

pub returns : goal.returns
returns g c =
    let answering = c.args.self.now.answering.now in
    are-lines (g.A.Answering.file answering) (g.A.Answering.noted answering) c.forms_are_clear.ensures c.front_is_one_line.ensures
