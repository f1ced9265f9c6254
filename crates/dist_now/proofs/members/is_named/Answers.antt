use Rattle.std.proofs.Common.{ℕ, List, get_or, refl, subst}
use Rattle.dist_repo.specs.Providers.{AreProviders}
use Rattle.dist_now.proofs.MemberLemmas.{named-any, none-named}
use Rattle.dist_now.proofs.members.is_named.Goals as goal

pub returns-then-eq : goal.returns-then-eq
returns-then-eq c = (
  λ _. named-any c.args.repo.now c.args.members.now c.args.name.now (get_or c.providers-providers.result.now c.loop-number.number-index 0) c.package.result.now
      (c.if-is_member.ensures.0 refl) c.package.ensures (c.if-eq.ensures.same.0 refl),
  λ _. refl,
)

pub returns : goal.returns
returns c = (
  λ is. cc,
  λ any. absurd (none-named c.args.repo.now c.args.members.now c.args.name.now c.providers-providers.result.now c.loop-number.number-index
      c.loop-number-test.false (subst (λ (name : List ℕ). AreProviders c.args.repo.now name c.providers-providers.result.now) c.bytes.ensures.value
      c.providers-providers.ensures) c.loop-number.invariant any),
)
