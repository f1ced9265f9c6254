use Rattle.std.proofs.Common.{ℕ, ◌<◌, List, length, arith, sym, subst}
use Rattle.std.specs.Prelude.{All}
use Rattle.dist_base.specs.declared.TheConstants.{MAX_VARIABLES}
use Rattle.dist_now.proofs.ClauseShape.{below-more, numbers-below}
use Rattle.dist_now.proofs.present_clauses.Scratch.write_name.Goals as goal

pub add_installed-requires : goal.add_installed-requires
add_installed-requires c =
    let numbers = c.gather_named.new.numbers.items in
    subst (λ (xs : List ℕ). All (λ k. k < MAX_VARIABLES) xs) (sym c.deref.ensures.value)
    (below-more (length c.args.repo.now.packages) MAX_VARIABLES numbers (omega (arith, c.requires))
    (numbers-below c.args.repo.now _ numbers c.in_ok-gather_named.ensures))
