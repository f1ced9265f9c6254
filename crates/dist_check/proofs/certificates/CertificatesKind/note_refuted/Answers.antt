use Rattle.dist_check.proofs.CertificateNotes.{notes-refuted}
use Rattle.dist_check.proofs.certificates.CertificatesKind.note_refuted.Goals as goal

pub returns : goal.returns
returns c = notes-refuted c.args.self.now.repo.now c.args.notes.now c.add_refuted.new.self c.args.question c.add_refuted.result c.add_refuted.ensures
