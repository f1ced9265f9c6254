use Rattle.dist_derive.specs.Watches.{WatchLists}
use Rattle.dist_derive.specs.OccurrencesPrivate.{code_of}
use Rattle.dist_derive.proofs.WatchLemmas.{none_watched}
use Rattle.dist_derive.proofs.watches.Watches.make.Goals as goal

pub returns : goal.returns
returns c = λ clauses.
    let w : WatchLists = record { lists = c.loop-code.lists.items; pairs = c.new-2.result.items } in
    none_watched w clauses c.new-2.ensures.items (λ l. c.loop-code.invariant (code_of l))
