use Rattle.std.proofs.Common.{sym, ◌∙◌}
use Rattle.std.proofs.lemmas.Bool.{false≢true}
use Rattle.dist_cert.proofs.HeaderForms.{no_header, other_header}
use Rattle.dist_cert.proofs.forms.Forms.header.Goals as goal

pub returns-in-None : goal.returns-in-None
returns-in-None c = no_header c.args.line.now _ c.loosely.ensures c.in-None.is

pub returns-else-branch : goal.returns-else-branch
returns-else-branch c = other_header c.args.line.now _ c.in-Some.header c.loosely.ensures c.in-Some.is
    (λ kept. false≢true (sym c.if-branch.false ∙ c.in_ok-is_header-in-Some.ensures.1 kept))
