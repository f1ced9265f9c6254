use Rattle.dist_check.proofs.CertificateNotes.{are-lines}
use Rattle.dist_check.proofs.certificates.CertificatesKind.laws.Goals as goal

pub returns : goal.returns
returns c = are-lines c.forms_are_clear.ensures c.args.self.now.repo.now
