use Rattle.std.proofs.Common.{get_or, refl}
use Rattle.dist_repo.specs.Match.{Matches}
use Rattle.dist_now.proofs.MemberLemmas.{member-any, none-matched, provider-matched}
use Rattle.dist_now.proofs.members.is_provider_met.Goals as goal

pub returns-then-is_member : goal.returns-then-is_member
returns-then-is_member c =
    let r = c.args.repo.now in
    let providers = c.args.providers.now in
    let k = c.loop-number.number-index in (
      (λ _. member-any (Matches r.architecture c.args.atom.now) r.packages c.args.members.now (get_or providers k 0) (c.if-is_member.ensures.0 refl)
          (provider-matched r c.args.atom.now providers k c.requires.usable c.requires.unbounded c.requires.providers c.loop-number-test.true)),
      λ _. refl,
    )

pub returns : goal.returns
returns c = (
  λ is. cc,
  λ any. absurd (none-matched c.args.repo.now c.args.members.now c.args.atom.now c.args.providers.now c.loop-number.number-index
      c.loop-number-test.false c.requires.providers c.loop-number.invariant any),
)
