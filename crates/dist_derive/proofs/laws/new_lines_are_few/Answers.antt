use Rattle.dist_derive.proofs.CountLaws.{few_lines}
use Rattle.dist_derive.proofs.laws.new_lines_are_few.Goals as goal

pub returns : goal.returns
returns c = few_lines
