use Rattle.std.proofs.Common.{List, subst, arith}
use Rattle.std.proofs.lemmas.List.{take_all}
use Rattle.dist_repair.proofs.MovedLemmas.{AreTruth, truth-is}
use Rattle.dist_repair.proofs.moved.values_of.Goals as goal

pub returns : goal.returns
returns c = truth-is c.args.variables c.args.members.now c.loop-member.values
    (subst (λ (ms : List _). AreTruth c.args.variables ms c.loop-member.values)
    (take_all c.loop-member.member-index c.args.members.now (omega arith)) c.loop-member.invariant)
