use Rattle.dist_cert.proofs.WritingLemmas.{nothing_is_front}
use Rattle.dist_cert.proofs.writing.write_line.Goals as goal

pub returns-then-length-line_limit-clause-front : goal.returns-then-length-line_limit-clause-front
returns-then-length-line_limit-clause-front g c = nothing_is_front _ _ _ (c.file_grows.ensures.begin _)

pub returns-then-length-whole_limit-clause-front :
    goal.returns-then-length-whole_limit-clause-front
returns-then-length-whole_limit-clause-front g c = nothing_is_front _ _ _ (c.file_grows.ensures.begin _)
