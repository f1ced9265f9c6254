use Rattle.dist_outside.proofs.Composing.{Holds-more, Holds-closed}
use Rattle.dist_outside.proofs.laws.file_holds.Goals as goal

pub returns : goal.returns
returns c = record { more = Holds-more; closed = Holds-closed }
