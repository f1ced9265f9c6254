use Rattle.std.proofs.Common.{rules}
use Rattle.dist_cert.proofs.WritingLemmas.{nothing_is_front}
use Rattle.dist_cert.proofs.writing.Writer.put_first.Goals as goal

pub returns-in_err-add_line-clause-front : goal.returns-in_err-add_line-clause-front
returns-in_err-add_line-clause-front g c = search (rules, nothing_is_front, c.file_grows.ensures.begin)
