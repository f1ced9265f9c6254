use Rattle.dist_repo.proofs.FlatTally.{IsFlattened}
use Rattle.dist_repo.proofs.tally.Tally.fill_rows.Given as goal

abbrev pub invariant-loop-key : goal.invariant-loop-key
invariant-loop-key l = IsFlattened l.packages l.self l.key-iterator l.index.names l.index.numbers l.index.offers
