use Rattle.dist_cert.proofs.ExactReader.{exact}
use Rattle.dist_cert.proofs.laws.reader_is_exact.Goals as goal

pub returns : goal.returns
returns c = exact
