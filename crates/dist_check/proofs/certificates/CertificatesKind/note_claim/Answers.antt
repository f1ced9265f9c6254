use Rattle.dist_check.proofs.CertificateNotes.{notes-claim}
use Rattle.dist_check.proofs.Next.{allowed}
use Rattle.dist_subject.specs.Basis.{matter_of}
use Rattle.dist_check.proofs.certificates.CertificatesKind.note_claim.Goals as goal

pub take-requires-clause-allowed : goal.take-requires-clause-allowed
take-requires-clause-allowed c =
    let some = c.requires.due in
    allowed (matter_of c.args.self.now.repo.now some.0) some.1 c.args.notes.now some.2 c.args.step some.3 some.4

pub returns : goal.returns
returns c = notes-claim c.args.self.now.repo.now c.args.notes.now c.take.new.self c.args.step c.requires.own c.take.result c.take.ensures
