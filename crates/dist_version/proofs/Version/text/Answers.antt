use Rattle.dist_version.specs.TextLaws.{spells_parts}
use Rattle.dist_version.specs.Kept.{text_of}
use Rattle.dist_version.proofs.Version.text.Goals as goal

pub returns-clause-spelled : goal.returns-clause-spelled
returns-clause-spelled c = let s = spells_parts (text_of c.self.inside.text) c.self.invariant.keeps.sound in rw (← c.self.view_is) s
