use Rattle.std.proofs.Common.{ℕ, arith, below_more, get_or, refl, subst}
use Rattle.std.proofs.lemmas.List.{get_or_default}
use Rattle.dist_archive.specs.MovedPrivate.{IsHeldAt}
use Rattle.dist_archive.proofs.archive.Archive.are_held_at.Goals as goal

pub loop-member-preserved : goal.loop-member-preserved
loop-member-preserved c =
    below_more (λ j. IsHeldAt c.args.self.now (get_or c.args.members.now j 0) c.args.version.now) c.loop-member.member-index c.loop-member.invariant
    (c.is_held_at.ensures.0 c.if-not-is_held_at.false)

pub returns : goal.returns
returns c = (
  (λ yes k d short. subst (λ (m : ℕ). IsHeldAt c.args.self.now m c.args.version.now) (get_or_default c.args.members.now k 0 d short)
      (c.loop-member.invariant k (omega arith))),
  λ all. refl,
)
