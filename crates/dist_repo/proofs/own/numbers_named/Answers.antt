use Rattle.dist_repo.proofs.OwnLemmas.{numbers-between}
use Rattle.dist_repo.proofs.own.numbers_named.Goals as goal

pub returns : goal.returns
returns c = numbers-between c.args.packages.now c.args.name.now _ _ c.span_of-start.ensures c.args.numbers.now c.requires.numbers
