use Rattle.std.proofs.Common.{ℕ, Option, subst}
use Rattle.dist_now.specs.GatheringPrivate.{IsLastEssential}
use Rattle.dist_now.proofs.NameFronts.{last-named, named-last, none-named}
use Rattle.dist_now.proofs.essentials.has_essential_before.Goals as goal

pub returns-in-None : goal.returns-in-None
returns-in-None c =
    let none = subst (λ (last : Option ℕ). IsLastEssential c.args.repo.now c.args.number last) c.in-None.is c.requires.last in (
      λ is. cc,
      λ below. absurd (none-named c.args.repo.now c.args.number c.args.package.now.name none below),
    )

pub returns-in-Some : goal.returns-in-Some
returns-in-Some c =
    let last = subst (λ (last : Option ℕ). IsLastEssential c.args.repo.now c.args.number last) c.in-Some.is c.requires.last in (
      λ is. named-last c.args.repo.now c.args.number c.in-Some.before c.args.package.now c.package.result.now c.package.ensures last
          (c.eq.ensures.same.0 is),
      λ below. c.eq.ensures.same.1 (last-named c.args.repo.now c.args.number c.in-Some.before c.args.package.now c.package.result.now
          c.keeps_invariant.ensures.in_order c.requires.number c.package.ensures last below),
    )
