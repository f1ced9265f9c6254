use Rattle.std.proofs.Common.{refl}
use Rattle.dist_future.proofs.FoundLemmas.{holds-from, one-found}
use Rattle.dist_future.proofs.found.candidate.Goals as goal

pub returns-then-matches : goal.returns-then-matches
returns-then-matches c =
    one-found c.args.space.now c.args.members.now c.args.atom.now c.args.meaning c.variable-variable.result c.variable-variable.ensures.value
    (holds-from c.args.space.now c.args.members.now c.args.meaning c.variable-variable.result c.value.result c.requires.is_meaning
    c.variable-variable.ensures.value c.value.ensures c.if-value.true) (c.if-matches.ensures.0 refl)
