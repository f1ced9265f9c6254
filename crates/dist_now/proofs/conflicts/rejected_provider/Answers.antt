use Rattle.std.proofs.Common.{refl}
use Rattle.dist_now.proofs.MemberLemmas.{provider-matched}
use Rattle.dist_now.proofs.RejectedLemmas.{least-rejected, none-rejected}
use Rattle.dist_now.proofs.conflicts.rejected_provider.Goals as goal

pub returns-then-is_other_member : goal.returns-then-is_other_member
returns-then-is_other_member c =
    let r = c.args.repo.now in
    let providers = c.args.providers.now in
    let k = c.loop-other.other-index in
    let is = c.if-is_other_member.ensures.0 refl in
    least-rejected r c.args.members.now c.args.number c.args.atom.now providers k c.requires.providers c.loop-other.invariant (
      is.0,
      record {
        member = is.1;
        has = provider-matched r c.args.atom.now providers k c.requires.usable c.requires.unbounded c.requires.providers c.loop-other-test.true;
      },
    )

pub returns : goal.returns
returns c =
    none-rejected c.args.repo.now c.args.members.now c.args.number c.args.atom.now c.args.providers.now c.loop-other.other-index c.loop-other-test.false
    c.requires.providers c.loop-other.invariant
