use Rattle.dist_cert.proofs.ExampleTenLines.{ten-lines}
use Rattle.dist_cert.proofs.ExampleEmpty.{empty}
use Rattle.dist_cert.proofs.ExampleChallenged.{challenged}
use Rattle.dist_cert.proofs.examples.examples_are_accepted.Goals as goal

pub returns-clause-ten_lines : goal.returns-clause-ten_lines
returns-clause-ten_lines c limits room = ten-lines limits room

pub returns-clause-empty : goal.returns-clause-empty
returns-clause-empty c limits room = empty limits room

pub returns-clause-challenged : goal.returns-clause-challenged
returns-clause-challenged c limits room = challenged limits room
