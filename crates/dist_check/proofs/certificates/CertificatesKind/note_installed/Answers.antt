use Rattle.dist_check.proofs.CertificateNotes.{notes-installed}
use Rattle.dist_check.proofs.Next.{count-fits}
use Rattle.dist_subject.specs.Basis.{matter_of}
use Rattle.dist_check.proofs.certificates.CertificatesKind.note_installed.Goals as goal

pub add_installation-requires-clause-count : goal.add_installation-requires-clause-count
add_installation-requires-clause-count c =
    let some = c.requires.count in
    count-fits (matter_of c.args.self.now.repo.now some.0) some.1 some.2 c.args.notes.now some.3 some.4

pub returns : goal.returns
returns c = notes-installed c.args.self.now.repo.now c.args.notes.now c.add_installation.new.self c.args.variables c.add_installation.result
    c.add_installation.ensures
