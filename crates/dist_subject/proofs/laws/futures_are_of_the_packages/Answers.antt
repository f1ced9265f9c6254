use Rattle.std.proofs.Common.{length}
use Rattle.dist_subject.specs.Present.{truth_of}
use Rattle.dist_subject.proofs.laws.futures_are_of_the_packages.Goals as goal

pub returns : goal.returns
returns c = λ s clauses members space stands. c.futures_meet_their_clauses.ensures.future s (truth_of (length s.meanings) members) space stands
