use Rattle.std.proofs.Common.{inr, refl}
use Rattle.dist_commands.proofs.ExplainLemmas.{named_within, none_found}
use Rattle.dist_commands.proofs.naming.find_named.Goals as goal

pub returns-in-Ok-Some-clause-within : goal.returns-in-Ok-Some-clause-within
returns-in-Ok-Some-clause-within c =
    named_within c.args.repository.now.packages c.as_bytes.result.now c.in-Ok-Some.number
    ((c.in-Ok-Some.ensures c.in-Ok-Some.number).0 c.in-Ok-Some.field-0-is)

pub returns-in-Ok-None-clause-given_up : goal.returns-in-Ok-None-clause-given_up
returns-in-Ok-None-clause-given_up c = λ files. inr (
  none_found c.args.repository.now.packages c.args.named.now c.in-Ok-None.field-0 c.in-Ok-None.field-0-is
      (rw c.as_bytes.ensures.value at c.in-Ok-None.ensures),
  refl,
)
