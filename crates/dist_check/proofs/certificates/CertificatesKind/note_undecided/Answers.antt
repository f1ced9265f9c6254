use Rattle.dist_check.proofs.CertificateNotes.{notes-undecided}
use Rattle.dist_check.proofs.certificates.CertificatesKind.note_undecided.Goals as goal

pub returns : goal.returns
returns c =
    notes-undecided c.args.self.now.repo.now c.args.notes.now c.add_undecided.new.self c.args.question c.add_undecided.result c.add_undecided.ensures
