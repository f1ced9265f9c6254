use Rattle.dist_check.proofs.CertificateNotes.{told-own}
use Rattle.dist_check.proofs.certificates.CertificatesKind.judge_claim.Goals as goal

pub returns : goal.returns
returns c = told-own c.args.self.now.repo.now c.args.notes.now c.args.step.now c.requires.form c.requires.own c.judge.result c.judge.ensures
