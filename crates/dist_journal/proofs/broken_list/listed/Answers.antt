use Rattle.std.proofs.Common.{◌↔◌, ℕ, List, subst}
use Rattle.std.specs.Prelude.{Contains}
use Rattle.dist_journal.specs.PairsPrivate.{pair_of}
use Rattle.dist_journal.proofs.PairLemmas.{all-listed, in-order, listed-pairs}
use Rattle.dist_journal.proofs.broken_list.listed.Goals as goal

pub returns : goal.returns
returns c =
    let list = c.loop-key.list.items in
    let keys = c.args.found.now.keys in
    let all = all-listed list c.loop-key.key-iterator keys c.loop-key.invariant c.in-None.ensures.steps.0 in (
      in-order list keys all c.iter-keys.ensures.ordered,
      λ b. subst (λ (k : List (ℕ × ℕ)). Contains list b ↔ Contains k (pair_of b)) all (listed-pairs list b),
    )
