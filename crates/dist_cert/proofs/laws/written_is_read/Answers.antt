use Rattle.dist_cert.proofs.ReadBack.{text_given}
use Rattle.dist_cert.proofs.laws.written_is_read.Goals as goal

pub returns : goal.returns
returns c limits header steps can = text_given limits header steps can
