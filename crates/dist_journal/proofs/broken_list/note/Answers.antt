use Rattle.std.proofs.Common.{◌≡◌, ℕ, List, subst, sym}
use Rattle.dist_journal.specs.PairsPrivate.{Adds}
use Rattle.dist_journal.proofs.PairLemmas.{adds-pair}
use Rattle.dist_journal.proofs.broken_list.note.Goals as goal

pub returns : goal.returns
returns c =
    subst (λ (new : List (ℕ × ℕ)). Adds c.args.found.now.keys new (λ pair. (c.args.cluster, c.args.number) ≡ pair))
    (sym c.in_ok-insert.ensures.keys) (adds-pair c.args.found.now.keys (c.args.cluster, c.args.number))
