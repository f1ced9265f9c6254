use Rattle.dist_control.proofs.ReaderLemmas.{has-next}
use Rattle.dist_control.proofs.reader.Stanzas.has_next.Goals as goal

pub returns-then-not-self : goal.returns-then-not-self
returns-then-not-self c =
    has-next c.args.self.now c.self.inside.line c.self.inside.rest.now c.self.inside.refused c.is_empty.result c.self.view_is c.self.invariant.at_stanza
    c.if-not-self.true c.is_empty.ensures
