use Rattle.std.proofs.Common.{arith}
use Rattle.dist_now.specs.NoneAskedLaws.{none-asked-any}
use Rattle.dist_now.proofs.MemberLemmas.{IsMetBy, met-wider}
use Rattle.dist_now.proofs.members.is_met.Goals as goal

pub returns-clause-met : goal.returns-clause-met
returns-clause-met c = (
  λ is. cc,
  λ any. absurd (none-asked-any (IsMetBy c.args.repo.now c.args.members.now) c.args.alternatives.now c.args.asked.now c.loop-place.place
      (met-wider c.args.repo.now c.args.members.now)
      (let e = c.len-place-end.ensures.value in omega (arith, e, c.loop-place-test.false)) c.requires.enough c.loop-place.invariant any),
)
