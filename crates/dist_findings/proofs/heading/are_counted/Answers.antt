use Rattle.std.proofs.lemmas.List.Elements.{All-from_get_or}
use Rattle.dist_cert.specs.Form.{IsSmall}
use Rattle.dist_findings.proofs.heading.are_counted.Goals as goal

pub returns-then-limit-ge1-clause-small : goal.returns-then-limit-ge1-clause-small
returns-then-limit-ge1-clause-small c = All-from_get_or IsSmall c.args.numbers.now 0 (λ i short. (c.type_inv.numbers i).fits)

pub returns-else-limit-ge1-clause-small : goal.returns-else-limit-ge1-clause-small
returns-else-limit-ge1-clause-small c = All-from_get_or IsSmall c.args.numbers.now 0 (λ i short. (c.type_inv.numbers i).fits)
