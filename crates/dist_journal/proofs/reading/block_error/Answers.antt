use Rattle.std.proofs.Common.{inl, inr, refl, subst, sym}
use Rattle.dist_package.specs.declared.error.PackagesError.TheVariants as packages_error
use Rattle.dist_journal.specs.Blocks.{IsBlockRefused}
use Rattle.dist_journal.specs.FollowPrivate.{IsBlockError}
use Rattle.dist_journal.proofs.reading.block_error.Goals as goal

pub returns-in-Bad-clause-refused : goal.returns-in-Bad-clause-refused
returns-in-Bad-clause-refused c = λ limit block refused.
    let is : IsBlockRefused limit block (packages_error.Bad c.in-Bad.fault) = subst (IsBlockRefused limit block) c.in-Bad.is refused in
    elim c.bad_block.ensures [
      | inl none ↦ inl none
      | inr bad ↦ inr (subst (IsBlockError limit c.args.number block) (sym bad) (refl, (c.in-Bad.fault, is, refl)))
    ]

pub returns-in-TooMany-clause-refused : goal.returns-in-TooMany-clause-refused
returns-in-TooMany-clause-refused c = λ limit block refused. inr (subst (IsBlockRefused limit block) c.in-TooMany.is refused)
